use Rattle.ms_line_insts.proofs.Fronts.{value_found, value_none}
use Rattle.ms_line_insts.proofs.steps.value_front.Goals as goal

pub returns-in-Some-2 : goal.returns-in-Some-2
returns-in-Some-2 c =
    let found = rw c.in-Some-2.is at c.in_ok-val.ensures in
    value_found c.args.line.now c.args.tokens.now c.in-Some.first c.in-Some.rest.now c.args.ty c.in-Some-2.val c.in-Some.ensures.cells c.in-Some.ensures.behind found.0 found.1

pub returns-in-None : goal.returns-in-None
returns-in-None c =
    value_none c.args.line.now c.args.tokens.now c.in-Some.first c.in-Some.rest.now c.args.ty c.in-Some.ensures.cells (rw c.in-None.is at c.in_ok-val.ensures)
