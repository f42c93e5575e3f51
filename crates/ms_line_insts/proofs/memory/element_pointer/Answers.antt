use Rattle.std.proofs.Common.{◌≡◌, ◌≢◌, ℤ, List, [], ◌∷◌, map, refl, ap, sym, subst, ◌∙◌, arith, w64, length}
use Rattle.std.proofs.lemmas.Int.{to_z-of_z, ints}
use Rattle.ms_grammar.specs.Kept.{Each}
use Rattle.ms_grammar.specs.Form.{index_text}
use Rattle.ms_grammar.specs.Fits.{AreTerms}
use Rattle.ms_grammar.specs.Limits.{IsSmallTerm}
use Rattle.ms_grammar.specs.declared.line.RawIndex.{RawIndex}
use Rattle.ms_grammar.specs.declared.line.RawInst.TheVariants.{Gep, Step}
use Rattle.ms_line_insts.proofs.Geps.{no_pointer, gep_spells, step_spells, past}
use Rattle.ms_line_insts.proofs.memory.element_pointer.Goals as goal

pub returns-in_default : goal.returns-in_default
returns-in_default c = no_pointer c.args.line.now c.args.tokens.now (λ p. (rw c.in_default.is at c.in_ok-before.ensures) p.sizes p.head _ p.spelled)

pub returns-in_default-2 : goal.returns-in_default-2
returns-in_default-2 c = no_pointer c.args.line.now c.args.tokens.now
    (λ p. (rw c.in_default-2.is at c.in_ok-base.ensures) p.base p.list p.value ((rw c.in-Some.is at c.in_ok-before.ensures).back p.sizes p.head _ p.spelled).further)

pub returns-in_default-3 : goal.returns-in_default-3
returns-in_default-3 c = no_pointer c.args.line.now c.args.tokens.now (λ p.
    let a = (rw c.in-Some.is at c.in_ok-before.ensures).back p.sizes p.head _ p.spelled in
    (rw c.in_default-3.is at c.in_ok-indices.ensures) p.items p.names p.list p.listed ((rw c.in-Some-2.is at c.in_ok-base.ensures).back p.base p.list p.value a.further).further)

pub returns-in_default-4 : goal.returns-in_default-4
returns-in_default-4 c = no_pointer c.args.line.now c.args.tokens.now (λ p.
    let a = (rw c.in-Some.is at c.in_ok-before.ensures).back p.sizes p.head _ p.spelled in
    let b = (rw c.in-Some-2.is at c.in_ok-base.ensures).back p.base p.list p.value a.further in
    let w = (rw c.in-Some-3.is at c.in_ok-indices.ensures).back p.items p.names p.list p.listed b.further in
    (rw c.in_default-4.is at c.in_ok-terms.ensures) p.sizes p.items p.names a.sized w p.terms p.are p.names_are)

pub returns-in_default-small_offset : goal.returns-in_default-small_offset
returns-in_default-small_offset c =
    let g = rw c.in-Some.is at c.in_ok-before.ensures in
    let i = rw c.in-Some-3.is at c.in_ok-indices.ensures in
    let t = (rw c.in-Some-4.is at c.in_ok-terms.ensures) g.types.0 i.has.0 i.has.1 g.types.1 i.has.2 in
    past c.args.line.now c.args.tokens.now c.in-Some.before.now c.in-Some.object.now c.in-Some.at_base.now c.in-Some-2.at_index.now c.in-Some-3.indices.now c.in-Some-2.base t.0 c.in-Some-3.tail
    (record { head = g; given = rw c.in-Some-2.is at c.in_ok-base.ensures; list = i }) t.1 t.2 (c.in_default-small_offset.ensures g.types.0 i.has.0 i.has.1 t.0 g.types.1 i.has.2 t.1 t.3)

empty : (ts : List RawIndex) → length ts ≡ 0 → ts ≡ []
empty [] e = refl
empty (t ∷ ts) e = absurd (omega arith)

filled : (ts : List RawIndex) → (length ts ≡ 0 → ⊥) → ts ≢ []
filled ts some e = some (ap (λ l. length l) e)

pub returns-then-len-eq0 : goal.returns-then-len-eq0
returns-then-len-eq0 c =
    let g = rw c.in-Some.is at c.in_ok-before.ensures in
    let i = rw c.in-Some-3.is at c.in_ok-indices.ensures in
    let t = (rw c.in-Some-4.is at c.in_ok-terms.ensures) g.types.0 i.has.0 i.has.1 g.types.1 i.has.2 in
    let f = c.in-Some-small_offset.ensures g.types.0 i.has.0 i.has.1 t.0 g.types.1 i.has.2 t.1 t.3 in
    let none : t.0 ≡ [] = sym f.3 ∙ empty c.in-Some-4.terms (sym c.len.ensures ∙ c.if-len-eq0.true) in (
      Gep c.in-Some-2.base c.in-Some-small_offset.offset c.in_ok-head.head c.in_ok-index.index c.in-Some-3.tail,
      gep_spells c.args.line.now c.args.tokens.now c.in-Some.before.now c.in-Some.object.now c.in-Some.at_base.now c.in-Some-2.at_index.now c.in-Some-3.indices.now c.in-Some-2.base c.in-Some-small_offset.offset
          c.in_ok-head.head c.in_ok-index.index c.in-Some-3.tail (record { head = g; given = rw c.in-Some-2.is at c.in_ok-base.ensures; list = i }) (subst (λ ts. AreTerms g.types.0 i.has.0 ts) none t.1) f.0
          c.in_ok-head.ensures c.in_ok-index.ensures,
      (ap (λ (z : ℤ). Gep c.in-Some-2.base z c.in_ok-head.head c.in_ok-index.index c.in-Some-3.tail) (to_z-of_z w64 c.in-Some-small_offset.offset (grind (arith, ints))), f.1),
    )

pub returns : goal.returns
returns c =
    let g = rw c.in-Some.is at c.in_ok-before.ensures in
    let i = rw c.in-Some-3.is at c.in_ok-indices.ensures in
    let t = (rw c.in-Some-4.is at c.in_ok-terms.ensures) g.types.0 i.has.0 i.has.1 g.types.1 i.has.2 in
    let f = c.in-Some-small_offset.ensures g.types.0 i.has.0 i.has.1 t.0 g.types.1 i.has.2 t.1 t.3 in
    let some = filled c.in-Some-4.terms (λ e. omega (arith, e, c.len.ensures, c.if-len-eq0.false)) in (
      Step c.in-Some-2.base c.in-Some-small_offset.offset c.in-Some-4.terms c.in_ok-head.head c.in_ok-index-2.index c.in-Some-3.tail,
      step_spells c.args.line.now c.args.tokens.now c.in-Some.before.now c.in-Some.object.now c.in-Some.at_base.now c.in-Some-2.at_index.now c.in-Some-3.indices.now c.in-Some-2.base c.in-Some-small_offset.offset
          c.in-Some-4.terms c.in_ok-head.head c.in_ok-index-2.index c.in-Some-3.tail (record { head = g; given = rw c.in-Some-2.is at c.in_ok-base.ensures; list = i }) some
          (subst (λ ts. AreTerms g.types.0 i.has.0 ts) (sym f.3) t.1) (t.2 ∙ ap (λ ts. map index_text ts) (sym f.3)) f.0 c.in_ok-head.ensures c.in_ok-index-2.ensures,
      (
        ap (λ (z : ℤ). Step c.in-Some-2.base z c.in-Some-4.terms c.in_ok-head.head c.in_ok-index-2.index c.in-Some-3.tail) (to_z-of_z w64 c.in-Some-small_offset.offset (grind (arith, ints))),
        (f.1, subst (λ ts. Each IsSmallTerm ts) (sym f.3) f.2),
      ),
    )
