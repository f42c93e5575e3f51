use Rattle.ms_line.proofs.Wholes.{no_global, global_found}
use Rattle.ms_line.proofs.small.global_var.Goals as goal

pub returns-then-not-branch : goal.returns-then-not-branch
returns-then-not-branch c = no_global c.args.line.now c.args.tokens.now (c.in_ok-global_line.ensures.no c.if-not-branch.true)

pub returns-in_ok-text-in-Some : goal.returns-in_ok-text-in-Some
returns-in_ok-text-in-Some c =
    let is = c.in_ok-global_line.ensures.yes c.if-not-branch.false in
    let told = rw c.in-Some.is at c.in_ok-name.ensures in
    global_found c.args.line.now c.args.tokens.now is.0 c.in-Some.name c.in_ok-text-in-Some.text told.0.0 is.1 told.0.1 told.1 c.in_ok-text-in-Some.ensures
