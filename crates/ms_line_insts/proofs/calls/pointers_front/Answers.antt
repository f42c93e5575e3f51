use Rattle.ms_line_insts.proofs.ArgLemmas.{comma_marks}
use Rattle.ms_line_insts.proofs.Copies.{pointers_found, pointers_none}
use Rattle.ms_line_insts.proofs.calls.pointers_front.Goals as goal

pub returns-in_default : goal.returns-in_default
returns-in_default c = λ y ps marks g h. (rw c.in_default.is at c.in_ok-to.ensures) y.0 _ (comma_marks c.args.line.now _) g.0 h

pub returns-in-Some-2 : goal.returns-in-Some-2
returns-in-Some-2 c =
    pointers_found c.args.line.now c.args.tokens.now c.in-Some.at_comma.now c.in-Some-2.rest.now c.in-Some.to c.in-Some-2.from (rw c.in-Some.is at c.in_ok-to.ensures) (rw c.in-Some-2.is at c.in_ok-from.ensures)

pub returns-in-None : goal.returns-in-None
returns-in-None c =
    pointers_none c.args.line.now c.args.tokens.now c.in-Some.at_comma.now c.in-Some.to (rw c.in-Some.is at c.in_ok-to.ensures) (rw c.in-None.is at c.in_ok-from.ensures)
