use Rattle.ms_line.proofs.Wholes.{group_found, no_group}
use Rattle.ms_line.proofs.small.group.Goals as goal

pub returns-in_ok-text-in-Some : goal.returns-in_ok-text-in-Some
returns-in_ok-text-in-Some c =
    let told = rw c.in-Some.is at c.in_ok-number.ensures in
    group_found c.args.line.now c.args.tokens.now c.in-Some.number c.in_ok-text-in-Some.text told.1 c.in_ok-text-in-Some.ensures

pub returns-in-None : goal.returns-in-None
returns-in-None c = no_group c.args.line.now c.args.tokens.now c.requires.each c.requires.readable (rw c.in-None.is at c.in_ok-number.ensures)
