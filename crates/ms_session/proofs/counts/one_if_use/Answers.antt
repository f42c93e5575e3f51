use Rattle.ms_ir.proofs.FuncLemmas.{at_and_nowhere}
use Rattle.ms_session.proofs.counts.one_if_use.Goals as goal

pub returns-in-None-clause-at : goal.returns-in-None-clause-at
returns-in-None-clause-at c = λ b place x at. absurd (at_and_nowhere c.args.func.now.blocks c.args.i.0 b place x c.in-None.ensures.found at)
