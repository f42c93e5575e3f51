use Rattle.std.proofs.Common.{arith}
use Rattle.ms_test_functions.proofs.Near.{near_more, near_from}
use Rattle.ms_test_functions.proofs.starting.expect_near.Goals as goal

pub loop-i-preserved : goal.loop-i-preserved
loop-i-preserved g c = near_more c.args.f.now.blocks c.loop-i.i c.loop-i.invariant c.expect_near_at.ensures

pub returns : goal.returns
returns g c = near_from c.args.f.now c.numbered.ensures (λ n b k x lt at. c.loop-i.invariant n b k x (omega arith) at)
