use Rattle.ms_line.proofs.InstLines.{term_found}
use Rattle.ms_line.proofs.insts.term.Goals as goal

pub returns-in-Some : goal.returns-in-Some
returns-in-Some c = term_found c.args.line.now c.args.tokens.now c.in-Some.term (rw c.in-Some.is at c.in_ok-term.ensures)
