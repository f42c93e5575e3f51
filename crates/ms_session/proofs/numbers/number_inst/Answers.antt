use Rattle.ms_ir.proofs.FuncLemmas.{at_and_nowhere}
use Rattle.ms_session.proofs.numbers.number_inst.Goals as goal

pub returns-in-None : goal.returns-in-None
returns-in-None c = λ b place x at. absurd (at_and_nowhere c.args.func.now.blocks c.args.i.0 b place x c.in-None.ensures.found at)
