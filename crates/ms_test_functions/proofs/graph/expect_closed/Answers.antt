use Rattle.std.proofs.Common.{◌<◌, length, subst, sym, arith}
use Rattle.std.specs.Prelude.{Contains}
use Rattle.ms_ir.specs.declared.inst.Term.{Term}
use Rattle.ms_ir.specs.Graph.{successors}
use Rattle.ms_test_functions.proofs.Targets.{targets_more, closed_from}
use Rattle.ms_test_functions.proofs.graph.expect_closed.Goals as goal

pub loop-b-preserved : goal.loop-b-preserved
loop-b-preserved g c =
    targets_more c.args.f.now.blocks c.loop-b.b c.loop-b.invariant (λ k e.
    let below = c.expect_targets.ensures k (subst (λ (t : Term). Contains (successors t) k) (sym c.term.ensures.term) e) in
    omega arith)

pub returns : goal.returns
returns g c =
    let some : 0 < length c.args.f.now.blocks = omega arith in
    closed_from c.args.f.now.blocks some (λ a k lt e. c.loop-b.invariant a k (omega arith) e)
