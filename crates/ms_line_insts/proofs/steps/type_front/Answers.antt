use Rattle.ms_line_insts.proofs.Fronts.{type_found, type_none}
use Rattle.ms_line_insts.proofs.steps.type_front.Goals as goal

pub returns-in-Some-type_at : goal.returns-in-Some-type_at
returns-in-Some-type_at c =
    type_found c.args.line.now c.args.tokens.now c.in-Some.first c.in-Some.rest.now c.in-Some-type_at.ty c.in-Some.ensures.cells c.in-Some.ensures.behind c.in-Some-type_at.ensures

pub returns-in-None : goal.returns-in-None
returns-in-None c = type_none c.args.line.now c.args.tokens.now c.in-Some.first c.in-Some.rest.now c.in-Some.ensures.cells c.in-None.ensures
