use Rattle.ms_line_insts.proofs.Heads.{comparison_found, comparison_none}
use Rattle.ms_line_insts.proofs.simple.comparison_head.Goals as goal

pub returns-in_default : goal.returns-in_default
returns-in_default c = λ y ps g h. c.in_default.ensures _ h

pub returns-in-Some-pred_front : goal.returns-in-Some-pred_front
returns-in-Some-pred_front c =
    comparison_found c.args.line.now c.args.tokens.now c.in-Some.at_flag.now c.flag_front-samesign.result.1.now c.in-Some-pred_front.rest.now c.flag_front-samesign.result.0 c.in-Some-pred_front.pred c.in-Some.ensures c.flag_front-samesign.ensures c.in-Some-pred_front.ensures

pub returns-in-None : goal.returns-in-None
returns-in-None c =
    comparison_none c.args.line.now c.args.tokens.now c.in-Some.at_flag.now c.flag_front-samesign.result.1.now c.flag_front-samesign.result.0 c.in-Some.ensures c.flag_front-samesign.ensures c.in-None.ensures
