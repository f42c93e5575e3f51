use Rattle.ms_line_insts.proofs.Geps.{head_found, head_none}
use Rattle.ms_line_insts.proofs.memory.head_cut.Goals as goal

pub returns-in_default : goal.returns-in_default
returns-in_default c = λ sizes head ps h. c.in_default.ensures _ h

pub returns-in-Some-object_cut : goal.returns-in-Some-object_cut
returns-in-Some-object_cut c =
    head_found c.args.line.now c.args.tokens.now c.in-Some.at_head.now c.in_ok-before.before.now c.in_ok-before.at_object.now c.in-Some-object_cut.object.now c.in-Some-object_cut.rest.now c.in-Some.ensures c.in_ok-before.ensures c.in-Some-object_cut.ensures

pub returns-in-None : goal.returns-in-None
returns-in-None c = head_none c.args.line.now c.args.tokens.now c.in-Some.at_head.now c.in_ok-before.before.now c.in_ok-before.at_object.now c.in-Some.ensures c.in_ok-before.ensures c.in-None.ensures
