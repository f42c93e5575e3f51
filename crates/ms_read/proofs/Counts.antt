-- What is counted on the way from one place to another.
use Rattle.std.proofs.Common.{◌≡◌, ◌≢◌, ℕ, ◌+◌, Bool, true, false, cond, List, [], ◌∷◌, Option, Some, None, refl, sym, ap, ◌∙◌, arith}
use Rattle.std.specs.List.{count_by}
use Rattle.std.specs.Prelude.{option_map}
use Rattle.std.proofs.lemmas.List.Sums.{sum_by-cons}
use Rattle.ms_grammar.specs.Kept.{Each}
use Rattle.ms_line.specs.declared.sort.Sort.{Sort}
use Rattle.ms_line.specs.declared.sort.Sort.TheVariants.{Blank, Item, Define, Close, Label, Phi, Alloca, Other, Term}
use Rattle.ms_read.specs.Places.{next_place, begins_block, is_inst, plus, counted, Lead}
use Rattle.ms_read.specs.Shape.{is_define, is_term, open_blocks}
use Rattle.ms_read.specs.declared.place.Place.{Place}
use Rattle.ms_read.specs.declared.place.Place.TheVariants.{Outside, Begun, Front, Inner, Ended}
use Rattle.ms_read.specs.declared.place.Progress.{Progress}
use Rattle.ms_read.proofs.Shapes.{counted_place, place_behind}

count_cons : (p : Sort → Bool) (s : Sort) (sorts : List Sort) → count_by p (s ∷ sorts) ≡ cond (p s) 1 0 + count_by p sorts
count_cons p s sorts = sum_by-cons (λ t. cond (p t) 1 0) s sorts

-- what stands behind a line
counted_next : (at : Progress) (sort : Sort) (found : Option Place) (next : Progress) → option_map (counted at sort) found ≡ Some next → counted at sort next.place ≡ next
counted_next at sort None next e = absurd (cc)
counted_next at sort (Some place) next e =
    let same : counted at sort place ≡ next = cc in
    let there : place ≡ next.place = sym (counted_place at sort place) ∙ ap (λ (p : Progress). p.place) same in
    ap (counted at sort) (sym there) ∙ same

one_function : (at : Progress) (sort : Sort) (place : Place) → (counted at sort place).functions ≡ at.functions + cond (is_define sort) 1 0
one_function at Blank place = omega arith
one_function at Item place = omega arith
one_function at Define place = refl
one_function at Close place = omega arith
one_function at Label place = omega arith
one_function at Phi place = omega arith
one_function at Alloca place = omega arith
one_function at Other place = omega arith
one_function at Term place = omega arith

one_inst : (at : Progress) (sort : Sort) (place : Place) → sort ≢ Define → (counted at sort place).insts ≡ at.insts + cond (is_inst sort) 1 0
one_inst at Blank place n = omega arith
one_inst at Item place n = omega arith
one_inst at Define place n = absurd (n refl)
one_inst at Close place n = omega arith
one_inst at Label place n = omega arith
one_inst at Phi place n = refl
one_inst at Alloca place n = refl
one_inst at Other place n = refl
one_inst at Term place n = omega arith

counted_blocks : (at : Progress) (sort : Sort) (place : Place) → sort ≢ Define → (counted at sort place).blocks ≡ plus at.blocks (begins_block at.place sort)
counted_blocks at Blank place n = refl
counted_blocks at Item place n = refl
counted_blocks at Define place n = absurd (n refl)
counted_blocks at Close place n = refl
counted_blocks at Label place n = refl
counted_blocks at Phi place n = refl
counted_blocks at Alloca place n = refl
counted_blocks at Other place n = refl
counted_blocks at Term place n = refl

opened : Option Place → ℕ
opened None = 0
opened (Some place) = open_blocks place

one_block : (at : Place) (sort : Sort) (place : Place) (blocks : ℕ) → next_place at sort ≡ Some place → sort ≢ Define
    → plus blocks (begins_block at sort) + open_blocks at ≡ blocks + cond (is_term sort) 1 0 + open_blocks place
unfolding opened
one_block at Blank place b e n = let o = ap opened e in omega (arith, o)
one_block Outside Item place b e n = let o = ap opened e in omega (arith, o)
one_block Outside Define place b e n = absurd (n refl)
one_block Outside sort place b e n = absurd (cc)
one_block Begun Label place b e n = let o = ap opened e in omega (arith, o)
one_block Begun Phi place b e n = let o = ap opened e in omega (arith, o)
one_block Begun Alloca place b e n = let o = ap opened e in omega (arith, o)
one_block Begun Other place b e n = let o = ap opened e in omega (arith, o)
one_block Begun Term place b e n = let o = ap opened e in omega (arith, o)
one_block Begun sort place b e n = absurd (cc)
one_block (Front first) Phi place b e n = let o = ap opened e in omega (arith, o)
one_block (Front true) Alloca place b e n = let o = ap opened e in omega (arith, o)
one_block (Front false) Alloca place b e n = absurd (cc)
one_block (Front first) Other place b e n = let o = ap opened e in omega (arith, o)
one_block (Front first) Term place b e n = let o = ap opened e in omega (arith, o)
one_block (Front first) sort place b e n = absurd (cc)
one_block (Inner true) Alloca place b e n = let o = ap opened e in omega (arith, o)
one_block (Inner false) Alloca place b e n = absurd (cc)
one_block (Inner first) Other place b e n = let o = ap opened e in omega (arith, o)
one_block (Inner first) Term place b e n = let o = ap opened e in omega (arith, o)
one_block (Inner first) sort place b e n = absurd (cc)
one_block Ended Label place b e n = let o = ap opened e in omega (arith, o)
one_block Ended Close place b e n = let o = ap opened e in omega (arith, o)
one_block Ended sort place b e n = absurd (cc)

pub functions_are : (sorts : List Sort) (at end : Progress) → Lead at sorts end → end.functions ≡ at.functions + count_by is_define sorts
functions_are [] at end h = let same = ap (λ (p : Progress). p.functions) h in omega (arith, same)
functions_are (s ∷ sorts) at end h =
    let rest = functions_are sorts h.0 end h.3 in
    let next = ap (λ (p : Progress). p.functions) (counted_next at s (next_place at.place s) h.0 h.1) in
    omega (arith, rest, next, one_function at s h.0.place, count_cons is_define s sorts)

pub insts_are : (sorts : List Sort) (at end : Progress) → Each (λ sort. sort ≢ Define) sorts → Lead at sorts end → end.insts ≡ at.insts + count_by is_inst sorts
insts_are [] at end some h = let same = ap (λ (p : Progress). p.insts) h in omega (arith, same)
insts_are (s ∷ sorts) at end some h =
    let rest = insts_are sorts h.0 end some.1 h.3 in
    let next = ap (λ (p : Progress). p.insts) (counted_next at s (next_place at.place s) h.0 h.1) in
    omega (arith, rest, next, one_inst at s h.0.place some.0, count_cons is_inst s sorts)

pub blocks_are : (sorts : List Sort) (at end : Progress) → Each (λ sort. sort ≢ Define) sorts → Lead at sorts end
    → end.blocks + open_blocks at.place ≡ at.blocks + count_by is_term sorts + open_blocks end.place
blocks_are [] at end some h =
    let same = ap (λ (p : Progress). p.blocks) h in
    let open_same = ap (λ (p : Progress). open_blocks p.place) h in
    omega (arith, same, open_same)
blocks_are (s ∷ sorts) at end some h =
    let rest = blocks_are sorts h.0 end some.1 h.3 in
    let next = ap (λ (p : Progress). p.blocks) (counted_next at s (next_place at.place s) h.0 h.1) in
    let here = one_block at.place s h.0.place at.blocks (place_behind at s (next_place at.place s) h.0 h.1) some.0 in
    omega (arith, rest, next, here, counted_blocks at s h.0.place some.0, count_cons is_term s sorts)
