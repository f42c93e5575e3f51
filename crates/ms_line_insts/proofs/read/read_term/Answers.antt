use Rattle.ms_line_insts.proofs.Spelt.{read_no_term}
use Rattle.ms_line_insts.proofs.read.read_term.Goals as goal

pub returns : goal.returns
returns c =
    read_no_term c.args.line.now c.args.tokens.now c.unreachable_end.result (rw c.in_default.is at c.in_ok-term.ensures) (rw c.in_default-2.is at c.in_ok-term-2.ensures) (rw c.in_default-3.is at c.in_ok-term-3.ensures) (rw c.in_default-4.is at c.in_ok-term-4.ensures) c.unreachable_end.ensures
