use Rattle.std.proofs.Common.{arith}
use Rattle.std.proofs.lemmas.Bool.{both_ways}
use Rattle.ms_validity.proofs.TypeLemmas.{fit_told}
use Rattle.ms_validity.proofs.types.args_fit.Goals as goal
use Rattle.ms_validity.proofs.types.args_fit.Goals.{else-not-sig-via-then-not-sig+else-len-wanted-2, else-not-sig-via-else-not-sig}

pub returns : goal.returns
returns c =
    fit_told c.args.sig.now c.args.args.now c.same_types.result
    (λ n. elim c.else-not-sig.branch [
      | else-not-sig-via-then-not-sig+else-len-wanted-2 w ↦ let e = w.if-len-wanted-2.false in omega arith
      | else-not-sig-via-else-not-sig w ↦ absurd (both_ways _ n w.if-not-sig.false)
    ])
    c.same_types.ensures
