use Rattle.std.proofs.Common.{◌≡◌, subst, ⊎_elim, refl, Some, arith}
use Rattle.std.specs.List.{slice_get}
use Rattle.std.proofs.lemmas.Bool.{cases_eq, false≢true}
use Rattle.ms_validity.proofs.TypeLemmas.{types_differ, types_same}
use Rattle.ms_validity.proofs.types.same_types.Goals as goal

pub returns-then-not-same_type_at : goal.returns-then-not-same_type_at
returns-then-not-same_type_at c =
    let w = c.same_type_at.ensures.other c.if-not-same_type_at.true in (
      λ t. absurd (false≢true t),
      λ h. absurd (types_differ c.args.args.now c.args.marks.now c.loop-k.k w.0 w.1 w.2 w.3 w.4 h),
    )

pub loop-k-preserved : goal.loop-k-preserved
loop-k-preserved c = λ j a m lt at mt. ⊎_elim
    (λ (e : j ≡ c.loop-k.k).
    c.same_type_at.ensures.same c.if-not-same_type_at.false a m (subst (λ i. slice_get c.args.args.now i ≡ Some a) e at) (subst (λ i. slice_get c.args.marks.now i ≡ Some m) e mt))
    (λ (n : j ≡ c.loop-k.k → ⊥). c.loop-k.invariant j a m (omega arith) at mt)
    (cases_eq j c.loop-k.k)

pub returns : goal.returns
returns c =
    let end = c.loop-k-test.false in (
      λ t. types_same c.args.args.now c.args.marks.now c.requires (λ k a m lt. c.loop-k.invariant k a m (omega arith)),
      λ h. refl,
    )
