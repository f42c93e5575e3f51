use Rattle.ms_line_insts.proofs.Fronts.{local_found, local_none}
use Rattle.ms_line_insts.proofs.steps.local_front.Goals as goal

pub returns-in-Some-2 : goal.returns-in-Some-2
returns-in-Some-2 c =
    let found = rw c.in-Some-2.is at c.in_ok-name.ensures in
    local_found c.args.line.now c.args.tokens.now c.in-Some.first c.in-Some.rest.now c.in-Some-2.name c.in-Some.ensures.cells c.in-Some.ensures.behind found.0 found.1

pub returns-in-None : goal.returns-in-None
returns-in-None c =
    local_none c.args.line.now c.args.tokens.now c.in-Some.first c.in-Some.rest.now c.in-Some.ensures.cells (rw c.in-None.is at c.in_ok-name.ensures)
