-- The register of a function's lines: its names, and the least line with a fault among what is made.
use Rattle.std.proofs.Common.{◌≡◌, ◌∙◌, ◌⊎◌, inl, inr, ⊎_elim, ℕ, suc, zero, ◌<◌, Bool, true, false, cond, List, [], ◌∷◌, ◌++◌, Option, Some, None, map, take, refl, sym, ap, subst, arith, append_assoc}
use Rattle.std.specs.Prelude.{◌||◌, ◌&&◌, not, filter, nat_lt, min, is_some, if◌then◌else◌}
use Rattle.std.specs.List.{slice_get, list_any, flat_map}
use Rattle.std.proofs.lemmas.Bool.{cases_Bool}
use Rattle.std.proofs.lemmas.Bool.Decides.{nat_tests}
use Rattle.ms_ir.specs.declared.names.Name.{Name}
use Rattle.ms_ir.specs.declared.names.Name.TheVariants.{Word, Number, Absent}
use Rattle.ms_ir.specs.declared.names.Param.{Param}
use Rattle.ms_grammar.specs.Kept.{Each}
use Rattle.ms_grammar.specs.declared.line.Line.{Line}
use Rattle.ms_grammar.specs.declared.line.Line.TheVariants as said
use Rattle.ms_grammar.specs.declared.line.Head.{Head}
use Rattle.ms_names.specs.Shape.{LabelLine, InstLine, BlockLines, FuncLines, inst_line, label_lines, block_lines, HasLabel, HasBlocks}
use Rattle.ms_names.specs.Made.{Made, param_made, inst_made, label_made, block_made, made_in, full_name, free_behind, free_after, named_from, name_of_made, is_same_name, locals_of, blocks_of}
use Rattle.ms_names.specs.Faults.{IsTooSmall, IsMadeAgain}
use Rattle.ms_names.specs.Places.{is_name_there}
use Rattle.ms_names.specs.Draft.{earlier, with_fault, is_small, is_taken, found_as, register_with, register_all, no_names, params_after, line_made, lines_after, first_made, register_in}
use Rattle.ms_names.specs.declared.register.Register.{Register}
use Rattle.ms_names.proofs.PlaceLemmas.{there_added, same_absent}
use Rattle.ms_names.proofs.Members.{Among, among_in, get_among, any_among, among_any, same_name, full_same, or_either, or_left, or_right}
use Rattle.ms_names.proofs.FirstFacts.{first_is, has_name, either_kind}
use Rattle.ms_names.proofs.Least.{IsLeastOf, least_change, run, least_along, FaultAlong, least_along_is, along_at, at_along}

-- the register of things made, one behind another
all-append : (r : Register) (xs ys : List Made) → register_all r (xs ++ ys) ≡ register_all (register_all r xs) ys
all-append r [] ys = refl
all-append r (x ∷ xs) ys = all-append (register_with r x) xs ys

lines-append : (r : Register) (xs ys : List (ℕ × Line)) → lines_after r (xs ++ ys) ≡ lines_after (lines_after r xs) ys
lines-append r [] ys = refl
lines-append r (x ∷ xs) ys = lines-append (register_all r (line_made x.0 x.1)) xs ys

params_all : (n : ℕ) (ps : List Param) (r : Register) → params_after r n ps ≡ register_all r (map (param_made n) ps)
params_all n [] r = refl
params_all n (p ∷ ps) r = params_all n ps (register_with r (param_made n p))

insts_all : (xs : List InstLine) (r : Register) → lines_after r (map inst_line xs) ≡ register_all r (flat_map inst_made xs)
insts_all [] r = refl
insts_all (x ∷ xs) r = insts_all xs (register_all r (inst_made x)) ∙ sym (all-append r (inst_made x) (flat_map inst_made xs))

-- what stands behind a block's label
behind_label : (b : BlockLines) (r : Register) → lines_after r (map inst_line b.insts ++ (b.end.line, said.Term b.end.term) ∷ []) ≡ register_all r (flat_map inst_made b.insts)
behind_label b r = lines-append r (map inst_line b.insts) ((b.end.line, said.Term b.end.term) ∷ []) ∙ insts_all b.insts r

labelled : (n : ℕ) (l : Option LabelLine) (insts : List InstLine) (end : List (ℕ × Line)) (r : Register) → is_some l ≡ true
    → ((s : Register) → lines_after s (map inst_line insts ++ end) ≡ register_all s (flat_map inst_made insts))
    → lines_after r (label_lines l ++ map inst_line insts ++ end) ≡ register_all r (label_made n l ∷ flat_map inst_made insts)
labelled n None insts end r e h = cc
labelled n (Some l) insts end r e h = ap (λ ls. lines_after r ls) (append_assoc (label_lines (Some l)) (map inst_line insts) end) ∙ h (register_with r (label_made n (Some l)))

block_all : (n : ℕ) (b : BlockLines) (r : Register) → HasLabel b → lines_after r (block_lines b) ≡ register_all r (block_made n b)
block_all n b r h = labelled n b.label b.insts ((b.end.line, said.Term b.end.term) ∷ []) r h (behind_label b)

blocks_all : (n : ℕ) (bs : List BlockLines) (r : Register) → Each HasLabel bs → lines_after r (flat_map block_lines bs) ≡ register_all r (flat_map (block_made n) bs)
blocks_all n [] r h = refl
blocks_all n (b ∷ bs) r h =
    lines-append r (block_lines b) (flat_map block_lines bs) ∙ ap (λ s. lines_after s (flat_map block_lines bs)) (block_all n b r h.0)
    ∙ blocks_all n bs (register_all r (block_made n b)) h.1 ∙ sym (all-append r (block_made n b) (flat_map (block_made n) bs))

-- the first block may lack its label line
first_of : (n : ℕ) (l : Option LabelLine) (insts : List InstLine) (end : ℕ × Line) (rest : List (ℕ × Line)) (r : Register) → first_made n (end ∷ []) ≡ label_made n None ∷ []
    → ((s : Register) → lines_after s (map inst_line insts ++ end ∷ []) ≡ register_all s (flat_map inst_made insts))
    → lines_after (register_all r (first_made n ((label_lines l ++ map inst_line insts ++ end ∷ []) ++ rest))) (label_lines l ++ map inst_line insts ++ end ∷ [])
    ≡ register_all r (label_made n l ∷ flat_map inst_made insts)
first_of n (Some l) insts end rest r e h = ap (λ ls. lines_after r ls) (append_assoc (label_lines (Some l)) (map inst_line insts) (end ∷ [])) ∙ h (register_with r (label_made n (Some l)))
first_of n None [] end rest r e h = ap (λ m. lines_after (register_all r m) (end ∷ [])) e ∙ h (register_with r (label_made n None))
first_of n None (x ∷ xs) end rest r e h = h (register_with r (label_made n None))

whole : (n : ℕ) (head : Head) (blocks : List BlockLines) → HasBlocks blocks
    → register_in n head (flat_map block_lines blocks) ≡ register_all no_names (map (param_made n) head.params ++ flat_map (block_made n) blocks)
whole n head [] h = absurd h
whole n head (b ∷ bs) h =
    let params = map (param_made n) head.params in
    let rest = flat_map block_lines bs in
    let r = register_all no_names params in
    let end : ℕ × Line = (b.end.line, said.Term b.end.term) in
    ap (λ (s : Register). lines_after (register_all s (first_made n (block_lines b ++ rest))) (block_lines b ++ rest)) (params_all n head.params no_names)
    ∙ lines-append (register_all r (first_made n (block_lines b ++ rest))) (block_lines b) rest
    ∙ ap (λ (s : Register). lines_after s rest) (first_of n b.label b.insts end rest r refl (behind_label b))
    ∙ blocks_all n bs (register_all r (block_made n b)) h
    ∙ sym (all-append r (block_made n b) (flat_map (block_made n) bs))
    ∙ sym (all-append no_names params (block_made n b ++ flat_map (block_made n) bs))

pub register_is : (f : FuncLines) → HasBlocks f.blocks → register_in f.line f.head (flat_map block_lines f.blocks) ≡ register_all no_names (made_in f)
register_is f h = whole f.line f.head f.blocks h

-- the names in a register
pub next_all : (ms : List Made) (r : Register) → (register_all r ms).next ≡ free_after r.next ms
next_all [] r = refl
next_all (m ∷ ms) r = next_all ms (register_with r m)

-- what the register finds
or_none : (a b : Bool) → a ≡ (a || (b && false))
or_none true b = refl
or_none false true = refl
or_none false false = refl

and_none : (a b : Bool) → (a && false) ≡ (b && false)
and_none true true = refl
and_none true false = refl
and_none false true = refl
and_none false false = refl

found_same : (taken : Bool) (full q : Name) → is_same_name q (found_as taken full) ≡ (not taken && is_same_name q full)
found_same true full q = same_absent q
found_same false full q = refl

taken_same : (r : Register) (full q : Name) → (not (is_taken r full) && is_same_name q full) ≡ (not (is_taken r q) && is_same_name q full)
taken_same r full q = ⊎_elim (λ (t : is_same_name q full ≡ true). ap (λ n. not (is_taken r n) && is_same_name q full) (sym (same_name q full t)))
    (λ (f : is_same_name q full ≡ false). rw f (and_none (not (is_taken r full)) (not (is_taken r q))))
    (cases_Bool (is_same_name q full))

-- a further thing is found by its name where nothing has it
abbrev is_new : Register → Made → Name → Bool
is_new r m q = not (is_taken r q) && is_same_name q (full_name r.next m.name)

new_same : (r : Register) (m : Made) (q : Name) → is_same_name q (found_as (is_taken r (full_name r.next m.name)) (full_name r.next m.name)) ≡ is_new r m q
new_same r m q = found_same (is_taken r (full_name r.next m.name)) (full_name r.next m.name) q ∙ taken_same r (full_name r.next m.name) q

added_unless : (b : Bool) (names : List Name) (y q : Name) → is_name_there (if b then names else names ++ y ∷ []) q ≡ (is_name_there names q || (not b && is_same_name q y))
added_unless true names y q = or_none (is_name_there names q) false
added_unless false names y q = there_added names y q

added_if : (b : Bool) (names : List Name) (y q : Name) → is_name_there (if b then names ++ y ∷ [] else names) q ≡ (is_name_there names q || (b && is_same_name q y))
added_if true names y q = there_added names y q
added_if false names y q = or_none (is_name_there names q) false

local_found : (r : Register) (m : Made) (q : Name) → is_name_there (register_with r m).locals q ≡ (is_name_there r.locals q || (not m.is_block && is_new r m q))
local_found r m q =
    added_unless m.is_block r.locals (found_as (is_taken r (full_name r.next m.name)) (full_name r.next m.name)) q
    ∙ ap (λ b. is_name_there r.locals q || (not m.is_block && b)) (new_same r m q)

block_found : (r : Register) (m : Made) (q : Name) → is_name_there (register_with r m).blocks q ≡ (is_name_there r.blocks q || (m.is_block && is_new r m q))
block_found r m q =
    added_if m.is_block r.blocks (found_as (is_taken r (full_name r.next m.name)) (full_name r.next m.name)) q
    ∙ ap (λ b. is_name_there r.blocks q || (m.is_block && b)) (new_same r m q)

-- a name that is there or not among locals, among blocks; a further thing that is a block or not and has the name or not; what comes then
abbrev with_local : Bool → Bool → Bool → Bool → Bool
with_local l b k s = l || (not k && (not (l || b) && s))

abbrev with_block : Bool → Bool → Bool → Bool → Bool
with_block l b k s = b || (k && (not (l || b) && s))

join_local : (l b k s rest : Bool) → (with_local l b k s || (not (with_local l b k s || with_block l b k s) && rest)) ≡ (l || (not (l || b) && (if s then not k else rest)))
join_local true b k s rest = refl
join_local false true true s rest = refl
join_local false true false s rest = refl
join_local false false true true rest = refl
join_local false false true false rest = refl
join_local false false false true rest = refl
join_local false false false false rest = refl

join_block : (l b k s rest : Bool) → (with_block l b k s || (not (with_local l b k s || with_block l b k s) && rest)) ≡ (b || (not (l || b) && (if s then k else rest)))
join_block true true k s rest = refl
join_block false true k s rest = refl
join_block true false true s rest = refl
join_block true false false s rest = refl
join_block false false true true rest = refl
join_block false false true false rest = refl
join_block false false false true rest = refl
join_block false false false false rest = refl

locals_found : (q : Name) (ms : List Made) (r : Register) → is_name_there (register_all r ms).locals q ≡ (is_name_there r.locals q || (not (is_taken r q) && first_is false q (named_from r.next ms)))
locals_found q [] r = or_none (is_name_there r.locals q) (not (is_taken r q))
locals_found q (m ∷ ms) r =
    let l = is_name_there r.locals q in
    let b = is_name_there r.blocks q in
    let s = is_same_name q (full_name r.next m.name) in
    let rest = first_is false q (named_from (free_behind r.next m.name) ms) in
    locals_found q ms (register_with r m)
    ∙ ap (λ x. x || (not (x || is_name_there (register_with r m).blocks q) && rest)) (local_found r m q)
    ∙ ap (λ y. with_local l b m.is_block s || (not (with_local l b m.is_block s || y) && rest)) (block_found r m q)
    ∙ join_local l b m.is_block s rest

blocks_found : (q : Name) (ms : List Made) (r : Register) → is_name_there (register_all r ms).blocks q ≡ (is_name_there r.blocks q || (not (is_taken r q) && first_is true q (named_from r.next ms)))
blocks_found q [] r = or_none (is_name_there r.blocks q) (not (is_taken r q))
blocks_found q (m ∷ ms) r =
    let l = is_name_there r.locals q in
    let b = is_name_there r.blocks q in
    let s = is_same_name q (full_name r.next m.name) in
    let rest = first_is true q (named_from (free_behind r.next m.name) ms) in
    blocks_found q ms (register_with r m)
    ∙ ap (λ x. x || (not (is_name_there (register_with r m).locals q || x) && rest)) (block_found r m q)
    ∙ ap (λ y. with_block l b m.is_block s || (not (y || with_block l b m.is_block s) && rest)) (local_found r m q)
    ∙ join_block l b m.is_block s rest

-- in the register of all things a name is found that the first thing with it has
pub local_found_first : (q : Name) (ms : List Made) → is_name_there (register_all no_names ms).locals q ≡ first_is false q (named_from 0 ms)
local_found_first q ms = locals_found q ms no_names

pub block_found_first : (q : Name) (ms : List Made) → is_name_there (register_all no_names ms).blocks q ≡ first_is true q (named_from 0 ms)
block_found_first q ms = blocks_found q ms no_names

taken_any : (q : Name) (ms : List Made) → is_taken (register_all no_names ms) q ≡ list_any (has_name q) (named_from 0 ms)
taken_any q ms =
    ap (λ b. b || is_name_there (register_all no_names ms).blocks q) (local_found_first q ms)
    ∙ ap (λ b. first_is false q (named_from 0 ms) || b) (block_found_first q ms)
    ∙ either_kind q (named_from 0 ms)

-- the least line with a fault
abbrev pub is_bad : Register → Made → Bool
is_bad r m = is_small r.next m.name || is_taken r (full_name r.next m.name)

abbrev pub made_line : Made → ℕ
made_line m = m.line

earlier_twice : (o : Option ℕ) (n : ℕ) → earlier (earlier o (Some n)) (Some n) ≡ earlier o (Some n)
earlier_twice None n = let same : min n n ≡ n = omega arith in ap Some same
earlier_twice (Some m) n = let same : min (min m n) n ≡ min m n = omega arith in ap Some same

twice : (o : Option ℕ) (a b : Bool) (n : ℕ) → with_fault (with_fault o a n) b n ≡ with_fault o (a || b) n
twice o false b n = refl
twice o true false n = refl
twice o true true n = earlier_twice o n

least_step : (r : Register) (m : Made) → (register_with r m).least ≡ with_fault r.least (is_bad r m) m.line
least_step r m = twice r.least (is_small r.next m.name) (is_taken r (full_name r.next m.name)) m.line

pub least_all : (ms : List Made) (r : Register) → (register_all r ms).least ≡ least_along register_with is_bad made_line r r.least ms
least_all [] r = refl
least_all (m ∷ ms) r = least_all ms (register_with r m) ∙ ap (λ o. least_along register_with is_bad made_line (register_with r m) o ms) (least_step r m)

run_is : (ms : List Made) (r : Register) → run register_with r ms ≡ register_all r ms
run_is [] r = refl
run_is (m ∷ ms) r = run_is ms (register_with r m)

-- places among named things
small_number : (next : ℕ) (name : Name) → is_small next name ≡ true → (k : ℕ) × (name ≡ Number k) × (k < next)
small_number next (Word w) e = cc
small_number next (Number k) e = let lt : k < next = grind (arith, nat_tests) in (k, refl, lt)
small_number next Absent e = cc

number_small : (next k : ℕ) (name : Name) → name ≡ Number k → k < next → is_small next name ≡ true
number_small next k name e lt = let test : nat_lt k next ≡ true = grind (arith, nat_tests) in ap (is_small next) e ∙ test

pub take_get : {X : Type 0} (xs : List X) (n k : ℕ) (x : X) → slice_get (take n xs) k ≡ Some x → (k < n) × (slice_get xs k ≡ Some x)
take_get [] zero k x e = cc
take_get [] (suc n) k x e = cc
take_get (y ∷ ys) zero k x e = cc
take_get (y ∷ ys) (suc n) zero x e = (omega arith, e)
take_get (y ∷ ys) (suc n) (suc k) x e = let r = take_get ys n k x e in (omega (arith, r.0), r.1)

pub get_take : {X : Type 0} (xs : List X) (n k : ℕ) (x : X) → k < n → slice_get xs k ≡ Some x → slice_get (take n xs) k ≡ Some x
get_take [] n k x lt e = cc
get_take (y ∷ ys) zero k x lt e = absurd (omega arith)
get_take (y ∷ ys) (suc n) zero x lt e = e
get_take (y ∷ ys) (suc n) (suc k) x lt e = get_take ys n k x (omega arith) e

named_take : (ms : List Made) (n next : ℕ) → named_from next (take n ms) ≡ take n (named_from next ms)
named_take [] zero next = refl
named_take [] (suc n) next = refl
named_take (m ∷ ms) zero next = refl
named_take (m ∷ ms) (suc n) next = ap (λ (r : List Made). record m { name = full_name next m.name } ∷ r) (named_take ms n (free_behind next m.name))

named_get : (ms : List Made) (k next : ℕ) (m : Made) → slice_get ms k ≡ Some m → slice_get (named_from next ms) k ≡ Some (record m { name = full_name (free_after next (take k ms)) m.name })
named_get [] k next m e = cc
named_get (x ∷ xs) zero next m e = let same : x ≡ m = cc in ap (λ (y : Made). let z : Made = record y { name = full_name next y.name } in Some z) same
named_get (x ∷ xs) (suc k) next m e = named_get xs k (free_behind next x.name) m e

get_named : (ms : List Made) (k next : ℕ) (y : Made) → slice_get (named_from next ms) k ≡ Some y
    → (m : Made) × (slice_get ms k ≡ Some m) × (y ≡ record m { name = full_name (free_after next (take k ms)) m.name })
get_named [] k next y e = cc
get_named (x ∷ xs) zero next y e = let same : record x { name = full_name next x.name } ≡ y = cc in (x, refl, sym same)
get_named (x ∷ xs) (suc k) next y e = get_named xs k (free_behind next x.name) y e

-- faults of the register are faults of the things made
abbrev pub IsMadeFault : List Made → ℕ → Type 0
IsMadeFault made n = IsTooSmall made n ⊎ IsMadeAgain (named_from 0 made) n

abbrev before : List Made → ℕ → Register
before made at = register_all no_names (take at made)

again_by : (made : List Made) (n at : ℕ) (m : Made) → slice_get made at ≡ Some m → m.line ≡ n
    → (x : Made) → Among (named_from 0 (take at made)) x → x.name ≡ full_name (free_after 0 (take at made)) m.name → IsMadeAgain (named_from 0 made) n
again_by made n at m found on x h same =
    let place = among_in (named_from 0 (take at made)) x h in
    let P : List Made → Type 0 = λ ms. slice_get ms place.0 ≡ Some x in
    let there = take_get (named_from 0 made) at place.0 x (subst P (named_take made at 0) place.1) in
    record {
      first = place.0;
      at = at;
      before = there.0;
      one = x;
      other = record m { name = full_name (free_after 0 (take at made)) m.name };
      first_is = there.1;
      at_is = named_get made at 0 m found;
      same = same;
      on = on;
    }

taken_there : (ms : List Made) (q : Name) → is_taken (register_all no_names ms) q ≡ true → (x : Made) × Among (named_from 0 ms) x × (x.name ≡ q)
taken_there ms q e =
    let r = any_among (has_name q) (named_from 0 ms) (sym (taken_any q ms) ∙ e) in
    (r.0, r.1, sym (same_name q r.0.name r.2))

there_taken : (ms : List Made) (x : Made) (q : Name) → is_same_name q q ≡ true → Among (named_from 0 ms) x → x.name ≡ q → is_taken (register_all no_names ms) q ≡ true
there_taken ms x q self h same = taken_any q ms ∙ among_any (has_name q) (named_from 0 ms) x h (ap (is_same_name q) same ∙ self)

fault_made : (made : List Made) (n at : ℕ) (m : Made) → slice_get made at ≡ Some m → m.line ≡ n → is_bad (before made at) m ≡ true → IsMadeFault made n
fault_made made n at m found on bad =
    let r = before made at in
    let next : r.next ≡ free_after 0 (take at made) = next_all (take at made) no_names in
    let full = full_name r.next m.name in
    let is : full ≡ full_name (free_after 0 (take at made)) m.name = ap (λ k. full_name k m.name) next in
    elim (or_either (is_small r.next m.name) (is_taken r full) bad) [
      | inl s ↦
          let k = small_number r.next m.name s in
          let small : k.0 < free_after 0 (take at made) = (let P : ℕ → Type 0 = λ b. k.0 < b in subst P next k.2) in
          inl (record { at = at; thing = m; number = k.0; found = found; written = k.1; small = small; on = on })
      | inr a ↦ let x = taken_there (take at made) full a in inr (again_by made n at m found on x.0 x.1 (x.2 ∙ is))
    ]

-- and the other way
made_fault : (made : List Made) (n : ℕ) → IsMadeFault made n → FaultAlong register_with is_bad made_line no_names made n
made_fault made n h = elim h [
  | inl s ↦
      let next : (before made s.at).next ≡ free_after 0 (take s.at made) = next_all (take s.at made) no_names in
      let lt : s.number < (before made s.at).next = (let P : ℕ → Type 0 = λ b. s.number < b in subst P (sym next) s.small) in
      let r = before made s.at in
      let bad : is_bad r s.thing ≡ true = or_left (is_small r.next s.thing.name) _ (number_small r.next s.number s.thing.name s.written lt) in
      at_along register_with is_bad made_line made no_names n s.at s.thing s.found (ap (λ t. is_bad t s.thing) (run_is (take s.at made) no_names) ∙ bad) s.on
  | inr a ↦
      let m = get_named made a.at 0 a.other a.at_is in
      let r = before made a.at in
      let next : r.next ≡ free_after 0 (take a.at made) = next_all (take a.at made) no_names in
      let full = full_name r.next m.0.name in
      let P : List Made → Type 0 = λ ms. slice_get ms a.first ≡ Some a.one in
      let one : Among (named_from 0 (take a.at made)) a.one =
      get_among (named_from 0 (take a.at made)) a.first a.one (subst P (sym (named_take made a.at 0)) (get_take (named_from 0 made) a.at a.first a.one a.before a.first_is)) in
      let same : a.one.name ≡ full = a.same ∙ ap name_of_made m.2 ∙ ap (λ k. full_name k m.0.name) (sym next) in
      let bad : is_bad r m.0 ≡ true = or_right (is_small r.next m.0.name) _ (there_taken (take a.at made) a.one full (full_same r.next m.0.name) one same) in
      let on : m.0.line ≡ n = sym (ap made_line m.2) ∙ a.on in
      at_along register_with is_bad made_line made no_names n a.at m.0 m.1 (ap (λ t. is_bad t m.0) (run_is (take a.at made) no_names) ∙ bad) on
]

along_made : (made : List Made) (n : ℕ) → FaultAlong register_with is_bad made_line no_names made n → IsMadeFault made n
along_made made n f =
    let a = along_at register_with is_bad made_line made no_names n f in
    fault_made made n a.at a.x a.found a.on (ap (λ t. is_bad t a.x) (sym (run_is (take a.at made) no_names)) ∙ a.bad)

pub register_least : (made : List Made) → IsLeastOf (IsMadeFault made) (register_all no_names made).least
register_least made =
    let F : ℕ → Type 0 = λ n. FaultAlong register_with is_bad made_line no_names made n in
    let None_ : ℕ → Type 0 = λ n. ⊥ in
    let o = least_along register_with is_bad made_line no_names None made in
    let along : IsLeastOf (λ n. None_ n ⊎ F n) o = least_along_is register_with is_bad made_line made no_names None_ None (λ n h. h) in
    let changed : IsLeastOf (IsMadeFault made) o = least_change (λ n. None_ n ⊎ F n) (IsMadeFault made) o
    (λ n e. elim e [ inl never ↦ absurd never | inr f ↦ along_made made n f ]) (λ n h. inr (made_fault made n h)) along in
    let P : Option ℕ → Type 0 = λ o. IsLeastOf (IsMadeFault made) o in
    subst P (sym (least_all made no_names)) changed

-- without a fault the register has all names
local_step : (b : Bool) (ls : List Name) (x : Made) (fs : List Made) → (if b then ls else ls ++ x.name ∷ []) ++ map name_of_made fs ≡ ls ++ map name_of_made (cond (not b) (x ∷ fs) fs)
local_step true ls x fs = refl
local_step false ls x fs = append_assoc ls (x.name ∷ []) (map name_of_made fs)

block_step : (b : Bool) (ls : List Name) (x : Made) (fs : List Made) → (if b then ls ++ x.name ∷ [] else ls) ++ map name_of_made fs ≡ ls ++ map name_of_made (cond b (x ∷ fs) fs)
block_step false ls x fs = refl
block_step true ls x fs = append_assoc ls (x.name ∷ []) (map name_of_made fs)

append_none : (xs : List Name) → xs ≡ xs ++ []
append_none [] = refl
append_none (x ∷ xs) = ap (λ r. x ∷ r) (append_none xs)

abbrev AreFine : Register → List Made → Type 0
AreFine r ms = (n : ℕ) → FaultAlong register_with is_bad made_line r ms n → ⊥

found_full : (r : Register) (m : Made) (ms : List Made) → AreFine r (m ∷ ms) → found_as (is_taken r (full_name r.next m.name)) (full_name r.next m.name) ≡ full_name r.next m.name
found_full r m ms fine = ⊎_elim
    (λ (t : is_taken r (full_name r.next m.name) ≡ true). absurd (fine m.line (inl (or_right (is_small r.next m.name) _ t, refl))))
    (λ (f : is_taken r (full_name r.next m.name) ≡ false). ap (λ b. found_as b (full_name r.next m.name)) f)
    (cases_Bool (is_taken r (full_name r.next m.name)))

locals_all : (ms : List Made) (r : Register) → AreFine r ms → (register_all r ms).locals ≡ r.locals ++ map name_of_made (filter (λ m. not m.is_block) (named_from r.next ms))
locals_all [] r fine = append_none r.locals
locals_all (m ∷ ms) r fine =
    let rest = filter (λ (x : Made). not x.is_block) (named_from (free_behind r.next m.name) ms) in
    locals_all ms (register_with r m) (λ n h. fine n (inr h))
    ∙ ap (λ (y : Name). (if m.is_block then r.locals else r.locals ++ y ∷ []) ++ map name_of_made rest) (found_full r m ms fine)
    ∙ local_step m.is_block r.locals (record m { name = full_name r.next m.name }) rest

blocks_all_named : (ms : List Made) (r : Register) → AreFine r ms → (register_all r ms).blocks ≡ r.blocks ++ map name_of_made (filter (λ m. m.is_block) (named_from r.next ms))
blocks_all_named [] r fine = append_none r.blocks
blocks_all_named (m ∷ ms) r fine =
    let rest = filter (λ (x : Made). x.is_block) (named_from (free_behind r.next m.name) ms) in
    blocks_all_named ms (register_with r m) (λ n h. fine n (inr h))
    ∙ ap (λ (y : Name). (if m.is_block then r.blocks ++ y ∷ [] else r.blocks) ++ map name_of_made rest) (found_full r m ms fine)
    ∙ block_step m.is_block r.blocks (record m { name = full_name r.next m.name }) rest

pub locals_are : (f : FuncLines) → ((n : ℕ) → IsMadeFault (made_in f) n → ⊥) → (register_all no_names (made_in f)).locals ≡ locals_of f
locals_are f none = locals_all (made_in f) no_names (λ n h. none n (along_made (made_in f) n h))

pub blocks_are : (f : FuncLines) → ((n : ℕ) → IsMadeFault (made_in f) n → ⊥) → (register_all no_names (made_in f)).blocks ≡ blocks_of f
blocks_are f none = blocks_all_named (made_in f) no_names (λ n h. none n (along_made (made_in f) n h))
