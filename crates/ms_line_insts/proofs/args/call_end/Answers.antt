use Rattle.ms_line_insts.proofs.ArgLemmas.{end_none, end_found}
use Rattle.ms_line_insts.proofs.args.call_end.Goals as goal

pub returns-in_default : goal.returns-in_default
returns-in_default c =
    end_none c.args.line.now c.args.tokens.now c.in_ok-behind.behind.now c.in_ok-behind.at_tail.now c.in_ok-behind.ensures (rw c.in_default.is at c.in_ok-tail.ensures)

pub returns : goal.returns
returns c =
    end_found c.args.line.now c.args.tokens.now c.in_ok-behind.behind.now c.in_ok-behind.at_tail.now c.in_ok-behind.ensures c.in_ok-post.post c.in-Some.tail c.in_ok-post.ensures (rw c.in-Some.is at c.in_ok-tail.ensures)
