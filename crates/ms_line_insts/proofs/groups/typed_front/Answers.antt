use Rattle.ms_line_insts.proofs.Fronts.{typed_found, typed_none}
use Rattle.ms_line_insts.proofs.groups.typed_front.Goals as goal

pub returns-in-Some-2 : goal.returns-in-Some-2
returns-in-Some-2 c = typed_found c.args.line.now c.args.tokens.now c.in-Some.behind.now c.in-Some-2.rest.now c.in-Some.ty c.in-Some-2.val c.in-Some.ensures (rw c.in-Some-2.is at c.in_ok-val.ensures)

pub returns-in-None : goal.returns-in-None
returns-in-None c = typed_none c.args.line.now c.args.tokens.now c.in-Some.behind.now c.in-Some.ty c.in-Some.ensures (rw c.in-None.is at c.in_ok-val.ensures)
