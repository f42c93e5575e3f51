-- What the printed lines of a function make gets the printed names again.
use Rattle.std.proofs.Common.{◌≡◌, ◌≤◌, ◌<◌, ◌+◌, ◌^◌, ℕ, zero, suc, Bool, true, false, cond, List, [], ◌∷◌, ◌++◌, Option, Some, None, map, take, length, if◌then◌else◌, refl, sym, ap, subst, ◌∙◌, arith}
use Rattle.std.specs.Prelude.{slice_get, filter, not}
use Rattle.std.specs.List.{flat_map}
use Rattle.ms_ir.specs.declared.names.Name.{Name}
use Rattle.ms_ir.specs.declared.names.Name.TheVariants.{Word, Number, Absent}
use Rattle.ms_ir.specs.declared.names.Param.{Param}
use Rattle.ms_grammar.specs.declared.line.RawInst.{RawInst}
use Rattle.ms_grammar.specs.declared.line.RawInst.TheVariants.{Alloca, Gep, Step, Load, Store, Copy, Call, Bin, Cmp, Select, Cast, Phi}
use Rattle.ms_resolve.specs.Shape.{LabelLine, InstLine, BlockLines, FuncLines}
use Rattle.ms_resolve.specs.Made.{Made, makes, param_made, inst_made, label_made, block_made, made_in, full_name, free_behind, free_after as free_over, named_from, named_in, locals_of, blocks_of, name_of_made}
use Rattle.ms_print.specs.Numbering.{numbered, shown_name, free_after, shown_params}
use Rattle.ms_again.specs.Same.{own_name}
use Rattle.ms_again.proofs.Renaming.{Renaming, renamed_inst}
use Rattle.ms_again.proofs.Fine.{made_name}
use Rattle.ms_again.proofs.Right.{names_in, numbered_is, shown_next}
use Rattle.ms_again.proofs.Names.{shown, named_by, free_by, locals_in, blocks_in, label_name, inst_free, insts_free, block_free, params_free, locals_listed, blocks_listed, locals_by, blocks_by, blocks_size, size_of}
use Rattle.ms_again.proofs.Again.{renaming, label_said, block_said, label_again, insts_again, block_again, blocks_again, start, func_again}

-- a written number that is less than the next free one
abbrev pub IsHigh : ℕ → Name → Type 0
IsHigh next (Word text) = Unit {0}
IsHigh next (Number k) = next ≤ k
IsHigh next Absent = Unit {0}

-- a name is read as the one that is printed
pub record IsAgain (next : ℕ) (new old : Name) : Type 0 where
  pub name : full_name next new ≡ shown_name next old
  pub free : free_behind next new ≡ free_after next old
  pub high : IsHigh next new

number_again : (next : ℕ) (old : Name) → shown_name next old ≡ numbered next → free_after next old ≡ next + 1 → next < 10 ^ 9 → IsAgain next (numbered next) old
number_again next old shown free h =
    subst (λ n. IsAgain next n old) (sym (numbered_is next h)) (record { name = sym (shown ∙ numbered_is next h); free = sym free; high = omega arith })

pub shown_again : (next : ℕ) (n : Name) → next < 10 ^ 9 → IsAgain next (shown_name next n) n
shown_again next (Word text) h = record { name = refl; free = refl; high = tt }
shown_again next (Number k) h = number_again next (Number k) refl refl h
shown_again next Absent h = number_again next Absent refl refl h

pub absent_again : (next : ℕ) (n : Name) → shown_name next n ≡ numbered next → free_after next n ≡ next + 1 → next < 10 ^ 9 → IsAgain next Absent n
absent_again next n shown free h = record { name = sym (shown ∙ numbered_is next h); free = sym free; high = tt }

-- things that are read as they are printed
abbrev pub AreAgain : ℕ → List Made → List Made → Type 0
AreAgain next [] [] = Unit {0}
AreAgain next (n ∷ ns) (m ∷ ms) = (n.is_block ≡ m.is_block) × IsAgain next n.name m.name × AreAgain (free_after next m.name) ns ms
AreAgain next _ _ = ⊥

pub again_join : (next : ℕ) (ns ms us vs : List Made) → AreAgain next ns ms → AreAgain (free_by shown next ms) us vs → AreAgain next (ns ++ us) (ms ++ vs)
again_join next [] [] us vs h k = k
again_join next [] (m ∷ ms) us vs h k = absurd h
again_join next (n ∷ ns) [] us vs h k = absurd h
again_join next (n ∷ ns) (m ∷ ms) us vs h k = (h.0, h.1, again_join (free_after next m.name) ns ms us vs h.2 k)

-- parameters
pub params_again : (row line next : ℕ) (ps : List Param) → next + length ps ≤ 10 ^ 9 → AreAgain next (map (param_made row) (shown_params next ps)) (map (param_made line) ps)
params_again row line next [] h = tt
params_again row line next (p ∷ ps) h =
    let more = shown_next next p.name in
    (refl, shown_again next p.name (omega arith), params_again row line (free_after next p.name) ps (omega arith))

pub params_next : (line next : ℕ) (ps : List Param) → free_by shown next (map (param_made line) ps) ≡ params_free shown next ps
params_next line next [] = refl
params_next line next (p ∷ ps) = params_next line (free_after next p.name) ps

pub params_less : (next : ℕ) (ps : List Param) → params_free shown next ps ≤ next + length ps
params_less next [] = omega arith
params_less next (p ∷ ps) = let more = shown_next next p.name in let rest = params_less (free_after next p.name) ps in omega arith

-- instructions
pub makes_again : (r : Renaming) (i : RawInst) → makes (renamed_inst r i) ≡ makes i
makes_again r (Alloca size head rest) = refl
makes_again r (Gep base offset head index rest) = refl
makes_again r (Step base offset terms head index rest) = refl
makes_again r (Load ty ptr rest) = refl
makes_again r (Store ty val ptr rest) = refl
makes_again r (Copy to from len head behind rest) = refl
makes_again r (Call callee ret args head behind rest) = refl
makes_again r (Bin op flags ty a b rest) = refl
makes_again r (Cmp pred flags ty a b rest) = refl
makes_again r (Select cond ty a b rest) = refl
makes_again r (Cast op flags from a to rest) = refl
makes_again r (Phi ty entries rest) = refl

abbrev pub made_as : ℕ → Name → Bool → List Made
made_as line name b = if b then record { line = line; is_block = false; name = name } ∷ [] else []

pub one_again : (row line next : ℕ) (n : Name) (b : Bool) → next < 10 ^ 9 → AreAgain next (made_as row (if b then shown_name next n else Absent) b) (made_as line n b)
one_again row line next n true h = (refl, shown_again next n h, tt)
one_again row line next n false h = tt

pub one_next : (line next : ℕ) (n : Name) (b : Bool) → free_by shown next (made_as line n b) ≡ (if b then free_after next n else next)
one_next line next n true = refl
one_next line next n false = refl

pub one_less : (next : ℕ) (n : Name) (b : Bool) → (if b then free_after next n else next) ≤ next + 1
one_less next n true = shown_next next n
one_less next n false = omega arith

pub inst_less : (next : ℕ) (x : InstLine) → inst_free shown next x ≤ next + 1
inst_less next x = one_less next x.name (makes x.inst)

insts_made : (r : Renaming) (row next : ℕ) (xs : List InstLine) → next + length xs ≤ 10 ^ 9 → AreAgain next (flat_map inst_made (insts_again r row next xs)) (flat_map inst_made xs)
insts_made r row next [] h = tt
insts_made r row next (x ∷ xs) h =
    let name = made_name x.inst (shown_name next x.name) in
    let more = inst_less next x in
    let one : AreAgain next (made_as row name (makes (renamed_inst r x.inst))) (inst_made x) =
    subst (λ b. AreAgain next (made_as row name b) (inst_made x)) (sym (makes_again r x.inst)) (one_again row x.line next x.name (makes x.inst) (omega arith)) in
    let rest = insts_made r (row + 1) (inst_free shown next x) xs (omega arith) in
    again_join next (made_as row name (makes (renamed_inst r x.inst))) (inst_made x) (flat_map inst_made (insts_again r (row + 1) (inst_free shown next x) xs)) (flat_map inst_made xs) one
    (subst (λ k. AreAgain k (flat_map inst_made (insts_again r (row + 1) (inst_free shown next x) xs)) (flat_map inst_made xs)) (sym (one_next x.line next x.name (makes x.inst))) rest)

pub free_join : (next : ℕ) (xs ys : List Made) → free_by shown next (xs ++ ys) ≡ free_by shown (free_by shown next xs) ys
free_join next [] ys = refl
free_join next (x ∷ xs) ys = free_join (free_after next x.name) xs ys

insts_next : (next : ℕ) (xs : List InstLine) → free_by shown next (flat_map inst_made xs) ≡ insts_free shown next xs
insts_next next [] = refl
insts_next next (x ∷ xs) =
    free_join next (inst_made x) (flat_map inst_made xs) ∙ ap (λ k. free_by shown k (flat_map inst_made xs)) (one_next x.line next x.name (makes x.inst)) ∙ insts_next (inst_free shown next x) xs

insts_less : (next : ℕ) (xs : List InstLine) → insts_free shown next xs ≤ next + length xs
insts_less next [] = omega arith
insts_less next (x ∷ xs) = let more = inst_less next x in let rest = insts_less (inst_free shown next x) xs in omega arith

pub block_less : (next : ℕ) (b : BlockLines) → block_free shown next b ≤ next + suc (length b.insts)
block_less next b = let more = shown_next next (label_name b.label) in let rest = insts_less (free_after next (label_name b.label)) b.insts in omega arith

-- labels
pub label_block : (n : ℕ) (l : Option LabelLine) → (label_made n l).is_block ≡ true
label_block n None = refl
label_block n (Some l) = refl

pub label_named : (n : ℕ) (l : Option LabelLine) → (label_made n l).name ≡ label_name l
label_named n None = refl
label_named n (Some l) = refl

pub label_is_again : (first : Bool) (row next : ℕ) (n : Name) → next < 10 ^ 9 → IsAgain next (label_name (label_again first row next n)) n
label_is_again true row next (Word text) h = record { name = refl; free = refl; high = tt }
label_is_again true row next (Number k) h = absent_again next (Number k) refl refl h
label_is_again true row next Absent h = absent_again next Absent refl refl h
label_is_again false row next n h = shown_again next n h

-- blocks
block_made_again : (r : Renaming) (first : Bool) (row row' line next : ℕ) (b : BlockLines) → next + suc (length b.insts) ≤ 10 ^ 9 →
    AreAgain next (block_made row' (block_again r first row next b)) (block_made line b)
block_made_again r first row row' line next b h =
    let name = label_name b.label in
    let new = label_again first row next name in
    let more = shown_next next name in
    let is_again : IsAgain next (label_made row' new).name (label_made line b.label).name =
    subst (λ n. IsAgain next n (label_made line b.label).name) (sym (label_named row' new))
    (subst (λ n. IsAgain next (label_name new) n) (sym (label_named line b.label)) (label_is_again first row next name (omega arith))) in
    let rest = insts_made r (row + length (label_said first next name)) (free_after next name) b.insts (omega arith) in (
      label_block row' new ∙ sym (label_block line b.label),
      is_again,
      subst (λ n. AreAgain (free_after next n) (flat_map inst_made (insts_again r (row + length (label_said first next name)) (free_after next name) b.insts)) (flat_map inst_made b.insts))
          (sym (label_named line b.label)) rest,
    )

block_next : (line next : ℕ) (b : BlockLines) → free_by shown next (block_made line b) ≡ block_free shown next b
block_next line next b = ap (λ n. free_by shown (free_after next n) (flat_map inst_made b.insts)) (label_named line b.label) ∙ insts_next (free_after next (label_name b.label)) b.insts

blocks_made : (r : Renaming) (first : Bool) (row row' line next : ℕ) (bs : List BlockLines) → next + blocks_size bs ≤ 10 ^ 9 →
    AreAgain next (flat_map (block_made row') (blocks_again r first row next bs)) (flat_map (block_made line) bs)
blocks_made r first row row' line next [] h = tt
blocks_made r first row row' line next (b ∷ bs) h =
    let more = block_less next b in
    let later = row + length (block_said r first next b) in
    let rest = blocks_made r false later row' line (block_free shown next b) bs (omega arith) in
    again_join next (block_made row' (block_again r first row next b)) (block_made line b) (flat_map (block_made row') (blocks_again r false later (block_free shown next b) bs)) (flat_map (block_made line) bs)
    (block_made_again r first row row' line next b (omega arith))
    (subst (λ k. AreAgain k (flat_map (block_made row') (blocks_again r false later (block_free shown next b) bs)) (flat_map (block_made line) bs)) (sym (block_next line next b)) rest)

-- a function
pub func_made : (row : ℕ) (f : FuncLines) → size_of f ≤ 10 ^ 9 → AreAgain 0 (made_in (func_again row f)) (made_in f)
func_made row f h =
    let less = params_less 0 f.head.params in
    again_join 0 (map (param_made row) (shown_params 0 f.head.params)) (map (param_made f.line) f.head.params)
    (flat_map (block_made row) (blocks_again (renaming f) true (row + 1) (start f) f.blocks)) (flat_map (block_made f.line) f.blocks)
    (params_again row f.line 0 f.head.params (omega arith))
    (subst (λ k. AreAgain k (flat_map (block_made row) (blocks_again (renaming f) true (row + 1) (start f) f.blocks)) (flat_map (block_made f.line) f.blocks)) (sym (params_next f.line 0 f.head.params))
    (blocks_made (renaming f) true (row + 1) row f.line (start f) f.blocks (omega arith)))

-- what is a block, and which name it has
abbrev pub key_of : Made → Bool × Name
key_of m = (m.is_block, m.name)

pub keys_again : (next : ℕ) (ns ms : List Made) → AreAgain next ns ms → map key_of (named_from next ns) ≡ map key_of (named_by shown next ms)
keys_again next [] [] h = refl
keys_again next [] (m ∷ ms) h = absurd h
keys_again next (n ∷ ns) [] h = absurd h
keys_again next (n ∷ ns) (m ∷ ms) h =
    ap (λ (b : Bool). (b, full_name next n.name) ∷ map key_of (named_from (free_behind next n.name) ns)) h.0
    ∙ ap (λ (k : Name). (m.is_block, k) ∷ map key_of (named_from (free_behind next n.name) ns)) h.1.name
    ∙ ap (λ k. (m.is_block, shown_name next m.name) ∷ map key_of (named_from k ns)) h.1.free
    ∙ ap (λ (rest : List (Bool × Name)). (m.is_block, shown_name next m.name) ∷ rest) (keys_again (free_after next m.name) ns ms h.2)

abbrev pub locals_by_key : List (Bool × Name) → List Name
locals_by_key [] = []
locals_by_key (k ∷ ks) = if k.0 then locals_by_key ks else k.1 ∷ locals_by_key ks

abbrev pub blocks_by_key : List (Bool × Name) → List Name
blocks_by_key [] = []
blocks_by_key (k ∷ ks) = if k.0 then k.1 ∷ blocks_by_key ks else blocks_by_key ks

abbrev pub name_by_key : Bool × Name → Name
name_by_key k = k.1

one_local : (b : Bool) (m : Made) (ms : List Made) → map name_of_made (cond (not b) (m ∷ ms) ms) ≡ (if b then map name_of_made ms else m.name ∷ map name_of_made ms)
one_local true m ms = refl
one_local false m ms = refl

one_block : (b : Bool) (m : Made) (ms : List Made) → map name_of_made (cond b (m ∷ ms) ms) ≡ (if b then m.name ∷ map name_of_made ms else map name_of_made ms)
one_block true m ms = refl
one_block false m ms = refl

pub locals_keyed : (ms : List Made) → locals_in ms ≡ locals_by_key (map key_of ms)
locals_keyed [] = refl
locals_keyed (m ∷ ms) =
    one_local m.is_block m (filter (λ (m : Made). not m.is_block) ms) ∙ ap (λ (ns : List Name). if m.is_block then ns else m.name ∷ ns) (locals_keyed ms)

pub blocks_keyed : (ms : List Made) → blocks_in ms ≡ blocks_by_key (map key_of ms)
blocks_keyed [] = refl
blocks_keyed (m ∷ ms) =
    one_block m.is_block m (filter (λ (m : Made). m.is_block) ms) ∙ ap (λ (ns : List Name). if m.is_block then m.name ∷ ns else ns) (blocks_keyed ms)

pub names_keyed : (ms : List Made) → names_in ms ≡ map name_by_key (map key_of ms)
names_keyed [] = refl
names_keyed (m ∷ ms) = ap (λ (ns : List Name). m.name ∷ ns) (names_keyed ms)

pub locals_again : (row : ℕ) (f : FuncLines) → size_of f ≤ 10 ^ 9 → locals_of (func_again row f) ≡ locals_listed shown f
locals_again row f h =
    let ns = named_in (func_again row f) in
    let ms = named_by shown 0 (made_in f) in
    locals_keyed ns ∙ ap locals_by_key (keys_again 0 (made_in (func_again row f)) (made_in f) (func_made row f h)) ∙ sym (locals_keyed ms) ∙ locals_by shown f

pub blocks_are_again : (row : ℕ) (f : FuncLines) → size_of f ≤ 10 ^ 9 → blocks_of (func_again row f) ≡ blocks_listed shown f
blocks_are_again row f h =
    let ns = named_in (func_again row f) in
    let ms = named_by shown 0 (made_in f) in
    blocks_keyed ns ∙ ap blocks_by_key (keys_again 0 (made_in (func_again row f)) (made_in f) (func_made row f h)) ∙ sym (blocks_keyed ms) ∙ blocks_by shown f

pub names_again : (row : ℕ) (f : FuncLines) → size_of f ≤ 10 ^ 9 → names_in (named_in (func_again row f)) ≡ names_in (named_by shown 0 (made_in f))
names_again row f h =
    names_keyed (named_in (func_again row f)) ∙ ap (λ (ks : List (Bool × Name)). map name_by_key ks) (keys_again 0 (made_in (func_again row f)) (made_in f) (func_made row f h))
    ∙ sym (names_keyed (named_by shown 0 (made_in f)))

-- no written number is less than the next free one
made_same : (x y : Made) → Some x ≡ Some y → x ≡ y
made_same x y e = cc

high_number : (next k : ℕ) (n : Name) → IsHigh next n → n ≡ Number k → next ≤ k
high_number next k (Word text) h e = absurd (cc)
high_number next k (Number j) h e = let same : j ≡ k = cc in subst (λ i. next ≤ i) same h
high_number next k Absent h e = absurd (cc)

pub none_small : (next : ℕ) (ns ms : List Made) (at k : ℕ) (thing : Made) → AreAgain next ns ms → slice_get ns at ≡ Some thing → thing.name ≡ Number k → k < free_over next (take at ns) → ⊥
none_small next [] ms at k thing h e name small = absurd (cc)
none_small next (n ∷ ns) [] at k thing h e name small = absurd h
none_small next (n ∷ ns) (m ∷ ms) zero k thing h e name small =
    let same : n ≡ thing = made_same n thing e in
    let high = high_number next k n.name h.1.high (ap (λ (x : Made). x.name) same ∙ name) in
    omega arith
none_small next (n ∷ ns) (m ∷ ms) (suc at) k thing h e name small =
    none_small (free_after next m.name) ns ms at k thing h.2 e name (subst (λ j. k < free_over j (take at ns)) h.1.free small)

-- a printed name shows the word that a name has
pub own_shown : (next : ℕ) (n : Name) → next < 10 ^ 9 → own_name (shown_name next n) ≡ own_name n
own_shown next (Word text) h = refl
own_shown next (Number k) h = ap own_name (numbered_is next h)
own_shown next Absent h = ap own_name (numbered_is next h)
