use Rattle.ms_test_functions.proofs.Near.{AreNear}
use Rattle.ms_test_functions.proofs.starting.expect_near.Given as goal

-- the instructions so far pass no limit
abbrev pub invariant-loop-i : goal.invariant-loop-i
invariant-loop-i g l = AreNear l.f.blocks l.i
