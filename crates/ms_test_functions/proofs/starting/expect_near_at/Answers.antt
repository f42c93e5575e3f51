use Rattle.ms_alias.proofs.Makers.{not_nowhere}
use Rattle.ms_test_functions.proofs.starting.expect_near_at.Goals as goal

pub returns-in-None : goal.returns-in-None
returns-in-None g c = λ b k x at s e. absurd (not_nowhere c.args.f.now.blocks c.args.i.0 b k x at c.in-None.ensures.found)
