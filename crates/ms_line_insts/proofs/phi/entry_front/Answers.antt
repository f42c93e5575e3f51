use Rattle.ms_line_insts.proofs.Entries.{entry_found, entry_none}
use Rattle.ms_line_insts.proofs.phi.entry_front.Goals as goal

pub returns-in_default : goal.returns-in_default
returns-in_default c = λ y ps g h. (rw c.in_default.is at c.in_ok-val.ensures) y.val _ g.0 h

pub returns-in-Some-2 : goal.returns-in-Some-2
returns-in-Some-2 c =
    entry_found c.args.ty c.args.line.now c.args.tokens.now c.in-Some.at_block.now c.in-Some-2.rest.now c.in-Some.val c.in-Some-2.from (rw c.in-Some.is at c.in_ok-val.ensures) (rw c.in-Some-2.is at c.in_ok-from.ensures)

pub returns-in-None : goal.returns-in-None
returns-in-None c = entry_none c.args.ty c.args.line.now c.args.tokens.now c.in-Some.at_block.now c.in-Some.val (rw c.in-Some.is at c.in_ok-val.ensures) (rw c.in-None.is at c.in_ok-from.ensures)
