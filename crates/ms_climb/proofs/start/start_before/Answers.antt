use Rattle.ms_ir.proofs.FuncLemmas.{at_and_nowhere}
use Rattle.ms_climb.proofs.start.start_before.Goals as goal

pub returns-in-None : goal.returns-in-None
returns-in-None c = λ b k x at. absurd (at_and_nowhere _ c.args.i.0 b k x c.in-None.ensures at)
