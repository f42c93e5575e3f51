use Rattle.std.proofs.Common.{arith}
use Rattle.std.proofs.lemmas.Bool.{iff_false}
use Rattle.std.proofs.lemmas.Option.{slice_get_within}
use Rattle.ms_validity.specs.Faults.{IsIrreducible}
use Rattle.ms_validity.proofs.ListLemmas.{none_more}
use Rattle.ms_validity.proofs.bodies.first_irreducible.Goals as goal

pub loop-f-preserved : goal.loop-f-preserved
loop-f-preserved c = none_more (IsIrreducible c.args.m.now) c.loop-f.f c.loop-f.invariant (iff_false c.in_ok-is_irreducible.ensures c.if-branch.false)

pub returns : goal.returns
returns c = λ n h.
    let lt = slice_get_within c.args.m.now.bodies n _ h.body in
    let le = c.requires.limit in
    let end = c.loop-f-test.false in
    c.loop-f.invariant n (omega arith) h
