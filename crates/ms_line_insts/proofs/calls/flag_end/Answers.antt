use Rattle.ms_line_insts.proofs.Copies.{read_end}
use Rattle.ms_line_insts.proofs.calls.flag_end.Goals as goal

pub returns-in_default : goal.returns-in_default
returns-in_default c = λ post rest h. c.in_default.ensures _ h

pub returns : goal.returns
returns c = read_end c.args.line.now c.args.tokens.now c.in-Some.behind.now c.call_end.result c.in-Some.ensures c.call_end.ensures
