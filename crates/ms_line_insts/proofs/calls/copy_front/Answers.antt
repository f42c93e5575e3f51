use Rattle.ms_line_insts.proofs.Copies.{copy_front_found, copy_front_none}
use Rattle.ms_line_insts.proofs.calls.copy_front.Goals as goal

pub returns-in_default : goal.returns-in_default
returns-in_default c = λ y ps marks g h. (rw c.in_default.is at c.in_ok-head.ensures) y.0 _ tt h

pub returns-in-Some-2 : goal.returns-in-Some-2
returns-in-Some-2 c =
    copy_front_found c.args.line.now c.args.tokens.now c.in-Some.at_to.now c.in-Some-2.rest.now c.in-Some.head c.in-Some-2.pointers (rw c.in-Some.is at c.in_ok-head.ensures) (rw c.in-Some-2.is at c.in_ok-pointers.ensures)

pub returns-in-None : goal.returns-in-None
returns-in-None c =
    copy_front_none c.args.line.now c.args.tokens.now c.in-Some.at_to.now c.in-Some.head (rw c.in-Some.is at c.in_ok-head.ensures) (rw c.in-None.is at c.in_ok-pointers.ensures)
