-- In a module without faults the names that lines use have printed names with the same numbers.
use Rattle.std.proofs.Common.{◌≡◌, ◌≤◌, ◌<◌, ◌^◌, ℕ, suc, Bool, true, false, List, [], ◌∷◌, Option, Some, None, map, length, if◌then◌else◌, refl, sym, ap, subst, ◌∙◌, arith}
use Rattle.std.specs.Prelude.{slice_get, not}
use Rattle.std.specs.List.{flat_map}
use Rattle.ms_ir.specs.declared.names.Name.{Name}
use Rattle.ms_ir.specs.declared.names.Name.TheVariants.{Word, Number, Absent}
use Rattle.ms_ir.specs.declared.names.Param.{Param}
use Rattle.ms_grammar.specs.Kept.{Each}
use Rattle.ms_grammar.specs.Fits.{IsNamed, MayBeNamed, IsParam, IsMade}
use Rattle.ms_grammar.specs.Limits.{IsShort, names_of_param}
use Rattle.ms_grammar.specs.declared.line.Line.TheVariants as said
use Rattle.ms_grammar.specs.declared.line.RawVal.{RawVal}
use Rattle.ms_grammar.specs.declared.line.RawVal.TheVariants.{Num, Local, Global}
use Rattle.ms_grammar.specs.declared.line.RawInst.{RawInst}
use Rattle.ms_grammar.specs.declared.line.RawInst.TheVariants.{Alloca, Gep, Step, Load, Store, Copy, Call, Bin, Cmp, Select, Cast, Phi}
use Rattle.ms_resolve.specs.Shape.{LabelLine, InstLine, BlockLines, FuncLines, ItemLines, body, label_lines}
use Rattle.ms_resolve.specs.Made.{Made, makes, param_made, inst_made, label_made, block_made, made_in, named_in, locals_of, blocks_of, name_of_made}
use Rattle.ms_resolve.specs.Used.{values_of, term_values, inst_blocks, term_blocks, local_of, inst_names, term_names}
use Rattle.ms_resolve.specs.Faults.{IsIn, StandsAt}
use Rattle.ms_resolve.specs.Faults as named
use Rattle.ms_resolve.specs.Cause.{NoNameFault}
use Rattle.ms_resolve.proofs.Members.{Among, among_in, among_map}
use Rattle.ms_validity.proofs.ListLemmas.{in_here, flat_in}
use Rattle.ms_again.proofs.Fine.{IsFine, IsGood, IsGoodVal, IsGoodBlock, each_join}
use Rattle.ms_again.proofs.Names.{full, shown, named_by, named_full, locals_by, blocks_by, locals_full, blocks_full, locals_listed, blocks_listed, block_names, block_free, params_free, Naming}
use Rattle.ms_again.proofs.ShownNames.{local_count}
use Rattle.ms_again.proofs.Again.{renaming}
use Rattle.ms_again.proofs.Right.{named_same, AreApart, IsRight, right, MayBeGood, names_in, shown_good, shown_apart, apart_some, good_some}
use Rattle.ms_again.proofs.Sites.{each_at, at_each, IsFineEntry, IsFineBlock, IsFineFunc, IsNamedVal, inst_values, inst_froms, term_named, term_froms, local_known, block_known}

-- what a function makes has names that may stand there
abbrev MayBeGoodMade : Made → Type 0
MayBeGoodMade m = MayBeGood m.name

may_be : (n : Name) → IsNamed n → MayBeNamed n
may_be (Word w) h = h
may_be (Number k) h = h
may_be Absent h = tt

absent_good : MayBeGood Absent
absent_good = (tt, (omega arith))

made_named : (n : Name) (i : RawInst) → IsMade n i → MayBeNamed n
made_named n (Alloca size head rest) h = may_be n h
made_named n (Gep base offset head index rest) h = may_be n h
made_named n (Step base offset terms head index rest) h = may_be n h
made_named n (Load ty ptr rest) h = may_be n h
made_named n (Store ty val ptr rest) h = subst (λ m. MayBeNamed m) (sym h) tt
made_named n (Copy to from len head behind rest) h = subst (λ m. MayBeNamed m) (sym h) tt
made_named n (Call callee None args head behind rest) h = subst (λ m. MayBeNamed m) (sym h) tt
made_named n (Call callee (Some ret) args head behind rest) h = h
made_named n (Bin op flags ty a b rest) h = may_be n h
made_named n (Cmp pred flags ty a b rest) h = may_be n h
made_named n (Select cond ty a b rest) h = may_be n h
made_named n (Cast op flags from a to rest) h = may_be n h
made_named n (Phi ty entries rest) h = may_be n h

params_good : (line : ℕ) (ps : List Param) → Each IsParam ps → Each IsShort (flat_map names_of_param ps) → Each MayBeGoodMade (map (param_made line) ps)
params_good line [] h s = tt
params_good line (p ∷ ps) h s = ((h.0, s.0), params_good line ps h.1 s.1)

one_good : (x : InstLine) (b : Bool) → MayBeGood x.name → Each MayBeGoodMade (if b then record { line = x.line; is_block = false; name = x.name } ∷ [] else [])
one_good x true h = (h, tt)
one_good x false h = tt

insts_good : (xs : List InstLine) → Each (λ (x : InstLine). IsFine (said.Inst x.name x.inst)) xs → Each MayBeGoodMade (flat_map inst_made xs)
insts_good [] h = tt
insts_good (x ∷ xs) h =
    each_join MayBeGoodMade (inst_made x) (flat_map inst_made xs)
    (one_good x (makes x.inst) (made_named x.name x.inst h.0.whole.says.fits.0, h.0.within.0.0)) (insts_good xs h.1)

label_good : (n : ℕ) (l : Option LabelLine) → Each IsFineEntry (label_lines l) → MayBeGoodMade (label_made n l)
label_good n None h = absent_good
label_good n (Some l) h = (may_be l.name h.0.whole.says.fits, h.0.within.0.0)

blocks_good : (n : ℕ) (bs : List BlockLines) → Each IsFineBlock bs → Each MayBeGoodMade (flat_map (block_made n) bs)
blocks_good n [] h = tt
blocks_good n (b ∷ bs) h =
    each_join MayBeGoodMade (block_made n b) (flat_map (block_made n) bs) (label_good n b.label h.0.labels, insts_good b.insts h.0.insts) (blocks_good n bs h.1)

each_named : (ms : List Made) → Each MayBeGoodMade ms → Each MayBeGood (names_in ms)
each_named [] h = tt
each_named (m ∷ ms) h = (h.0, each_named ms h.1)

made_good : (f : FuncLines) → IsFineFunc f → Each MayBeGood (names_in (made_in f))
made_good f fine =
    each_named (made_in f) (each_join MayBeGoodMade (map (param_made f.line) f.head.params) (flat_map (block_made f.line) f.blocks)
    (params_good f.line f.head.params fine.define.whole.says.fits.0.1 fine.define.within.0.1) (blocks_good f.line f.blocks fine.blocks))

-- no two things that a function makes have the same name
apart_by : (ms : List Made) → ((i j : ℕ) (a b : Made) → i < j → slice_get ms i ≡ Some a → slice_get ms j ≡ Some b → a.name ≡ b.name → ⊥) → AreApart (names_in ms)
apart_by [] h = tt
apart_by (m ∷ ms) h = (
  λ on.
      let r = among_map name_of_made ms m.name on in
      let at = among_in ms r.0 r.1 in
      h 0 (suc at.0) m r.0 (omega arith) refl at.1 (sym r.2),
  apart_by ms (λ i j a b less one two same. h (suc i) (suc j) a b (omega arith) one two same),
)

names_apart : (items : List ItemLines) (f : FuncLines) → NoNameFault items → IsIn items (body f) → AreApart (names_in (named_in f))
names_apart items f sound il =
    apart_by (named_in f) (λ i j a b less one two same.
    sound b.line (named.HasNameFault.inside f il (named.HasFaultIn.again
    (record { first = i; at = j; before = less; one = a; other = b; first_is = one; at_is = two; same = same; on = refl }))))

-- the printed names of a function
pub record AreRight (f : FuncLines) : Type 0 where
  pub apart : AreApart (names_in (named_by shown 0 (made_in f)))
  pub locals_apart : AreApart (locals_listed shown f)
  pub blocks_apart : AreApart (blocks_listed shown f)
  pub locals_good : Each IsGood (locals_listed shown f)
  pub blocks_good : Each IsGood (blocks_listed shown f)

pub are_right : (items : List ItemLines) (f : FuncLines) → NoNameFault items → IsIn items (body f) → IsFineFunc f → length (made_in f) ≤ 10 ^ 9 → AreRight f
are_right items f sound il fine few =
    let ms = named_by shown 0 (made_in f) in
    let first : AreApart (names_in (named_by full 0 (made_in f))) = subst (λ (l : List Made). AreApart (names_in l)) (named_full 0 (made_in f)) (names_apart items f sound il) in
    let apart : AreApart (names_in ms) = shown_apart 0 0 (made_in f) (omega arith) first in
    let good : Each IsGood (names_in ms) = shown_good 0 (made_in f) (omega arith) (made_good f fine) in
    record {
      apart = apart;
      locals_apart = subst (λ ns. AreApart ns) (locals_by shown f) (apart_some (λ (m : Made). not m.is_block) ms apart);
      blocks_apart = subst (λ ns. AreApart ns) (blocks_by shown f) (apart_some (λ (m : Made). m.is_block) ms apart);
      locals_good = subst (λ (ns : List Name). Each IsGood ns) (locals_by shown f) (good_some (λ (m : Made). not m.is_block) ms good);
      blocks_good = subst (λ (ns : List Name). Each IsGood ns) (blocks_by shown f) (good_some (λ (m : Made). m.is_block) ms good);
    }

-- how many names there are
names_count : (g : Naming) (next : ℕ) (bs : List BlockLines) → length (block_names g next bs) ≡ length bs
names_count g next [] = refl
names_count g next (b ∷ bs) = ap suc (names_count g (block_free g next b) bs)

pub locals_count : (f : FuncLines) → length (locals_of f) ≡ length (locals_listed shown f)
locals_count f = ap length (locals_full f) ∙ local_count full f ∙ sym (local_count shown f)

pub blocks_count : (f : FuncLines) → length (blocks_of f) ≡ length (blocks_listed shown f)
blocks_count f = ap length (blocks_full f) ∙ names_count full (params_free full 0 f.head.params) f.blocks ∙ sym (names_count shown (params_free shown 0 f.head.params) f.blocks)

-- what a line uses
abbrev pub IsRightVal : FuncLines → RawVal → Type 0
IsRightVal f (Num ty n) = Unit {0}
IsRightVal f (Local n) = IsRight (locals_of f) (locals_listed shown f) n
IsRightVal f (Global n) = Unit {0}

abbrev pub IsRightBlock : FuncLines → Name → Type 0
IsRightBlock f n = IsRight (blocks_of f) (blocks_listed shown f) n

pub record IsRightUse (f : FuncLines) (values : List RawVal) (blocks : List Name) : Type 0 where
  pub vals : Each (IsRightVal f) values
  pub froms : Each (IsRightBlock f) blocks

abbrev pub IsRightInst : FuncLines → InstLine → Type 0
IsRightInst f x = IsRightUse f (values_of x.inst) (inst_blocks x.inst)

pub record IsRightLines (f : FuncLines) (b : BlockLines) : Type 0 where
  pub insts : Each (IsRightInst f) b.insts
  pub term : IsRightUse f (term_values b.end.term) (term_blocks b.end.term)

val_right : (f : FuncLines) (right_names : AreRight f) (vals : List RawVal) → ((q : Name) → IsNamed q → IsIn (flat_map local_of vals) q → Among (locals_of f) q) → (v : RawVal) → IsNamedVal v → IsIn vals v → IsRightVal f v
val_right f names vals known (Num ty n) h on = tt
val_right f names vals known (Local n) h on =
    right (locals_of f) (locals_listed shown f) (locals_count f) names.locals_apart names.locals_good n (named_same n h)
    (known n h (flat_in local_of vals (Local n) n on (in_here n [])))
val_right f names vals known (Global n) h on = tt

use_right : (f : FuncLines) → AreRight f → (vals : List RawVal) (froms : List Name) → Each IsNamedVal vals → Each IsNamed froms →
    ((q : Name) → IsNamed q → IsIn (flat_map local_of vals) q → Among (locals_of f) q) → ((q : Name) → IsNamed q → IsIn froms q → Among (blocks_of f) q) → IsRightUse f vals froms
use_right f names vals froms named_vals named_froms locals blocks = record {
  vals = each_at (IsRightVal f) vals (λ k v e. val_right f names vals locals v (at_each IsNamedVal vals k v named_vals e) (k, e));
  froms = each_at (IsRightBlock f) froms (λ k n e.
      let is_name = at_each IsNamed froms k n named_froms e in
      right (blocks_of f) (blocks_listed shown f) (blocks_count f) names.blocks_apart names.blocks_good n (named_same n is_name) (blocks n is_name (k, e)));
}

pub lines_right : (items : List ItemLines) (f : FuncLines) → NoNameFault items → IsIn items (body f) → IsFineFunc f → AreRight f → Each (IsRightLines f) f.blocks
lines_right items f sound il fine names =
    each_at (IsRightLines f) f.blocks (λ b block block_is.
    let fine_block = at_each IsFineBlock f.blocks b block fine.blocks block_is in
    let term_stands : StandsAt f block.end.line (term_names block.end.term) = named.StandsAt.term block (b, block_is) refl refl in
    let term_fits = fine_block.term.whole.says.fits in
    record {
      insts = each_at (IsRightInst f) block.insts (λ k x line_is.
          let says = (at_each _ block.insts k x fine_block.insts line_is).whole.says in
          let stands : StandsAt f x.line (inst_names x.inst) = named.StandsAt.inst block x (b, block_is) (k, line_is) refl refl in
          use_right f names (values_of x.inst) (inst_blocks x.inst) (inst_values says.scale x.inst says.fits.1) (inst_froms says.scale x.inst says.fits.1)
          (λ q h on. local_known items f x.line (inst_names x.inst) sound il stands q h on) (λ q h on. block_known items f x.line (inst_names x.inst) sound il stands q h on));
      term = use_right f names (term_values block.end.term) (term_blocks block.end.term) (term_named block.end.term term_fits) (term_froms block.end.term term_fits)
          (λ q h on. local_known items f block.end.line (term_names block.end.term) sound il term_stands q h on)
          (λ q h on. block_known items f block.end.line (term_names block.end.term) sound il term_stands q h on);
    })

-- what is right is good
good_val : (f : FuncLines) (v : RawVal) → IsRightVal f v → IsGoodVal (renaming f) v
good_val f (Num ty n) h = tt
good_val f (Local n) h = h.good
good_val f (Global n) h = tt

pub good_vals : (f : FuncLines) (vals : List RawVal) → Each (IsRightVal f) vals → Each (IsGoodVal (renaming f)) vals
good_vals f [] h = tt
good_vals f (v ∷ vs) h = (good_val f v h.0, good_vals f vs h.1)

pub good_froms : (f : FuncLines) (froms : List Name) → Each (IsRightBlock f) froms → Each (IsGoodBlock (renaming f)) froms
good_froms f [] h = tt
good_froms f (n ∷ ns) h = (h.0.good, good_froms f ns h.1)
