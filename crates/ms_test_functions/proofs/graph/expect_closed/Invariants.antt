use Rattle.ms_test_functions.proofs.Targets.{AreTargets}
use Rattle.ms_test_functions.proofs.graph.expect_closed.Given as goal

-- the blocks so far lead to blocks
abbrev pub invariant-loop-b : goal.invariant-loop-b
invariant-loop-b g l = AreTargets l.f.blocks l.b
