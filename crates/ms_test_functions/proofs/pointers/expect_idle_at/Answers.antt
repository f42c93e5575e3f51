use Rattle.std.proofs.Common.{ap, ◌∙◌}
use Rattle.ms_alias.specs.Roots.{makes_pointer}
use Rattle.ms_alias.proofs.Makers.{not_nowhere}
use Rattle.ms_test_functions.proofs.pointers.expect_idle_at.Goals as goal

pub returns-in-Some : goal.returns-in-Some
returns-in-Some g c = λ b k x at. ap makes_pointer (c.in-Some.ensures.each b k x at) ∙ c.expect_idle.ensures

pub returns-in-None : goal.returns-in-None
returns-in-None g c = λ b k x at. absurd (not_nowhere c.args.f.now.blocks c.args.i.0 b k x at c.in-None.ensures.found)
