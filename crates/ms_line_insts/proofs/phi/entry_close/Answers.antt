use Rattle.ms_line_insts.proofs.Entries.{close_found, close_none}
use Rattle.ms_line_insts.proofs.phi.entry_close.Goals as goal

pub returns-in_default : goal.returns-in_default
returns-in_default c = λ y ps g h. (rw c.in_default.is at c.in_ok-from.ensures) y _ g h

pub returns-in-Some-behind_word : goal.returns-in-Some-behind_word
returns-in-Some-behind_word c =
    close_found c.args.line.now c.args.tokens.now c.in-Some.at_close.now c.in-Some-behind_word.rest.now c.in-Some.from (rw c.in-Some.is at c.in_ok-from.ensures) c.in-Some-behind_word.ensures

pub returns-in-None : goal.returns-in-None
returns-in-None c = close_none c.args.line.now c.args.tokens.now c.in-Some.at_close.now c.in-Some.from (rw c.in-Some.is at c.in_ok-from.ensures) c.in-None.ensures
