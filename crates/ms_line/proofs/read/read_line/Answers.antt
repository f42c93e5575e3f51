use Rattle.std.proofs.Common.{sym, ◌∙◌}
use Rattle.ms_line.proofs.Again.{read_again}
use Rattle.ms_line.proofs.Cells.{not_true}
use Rattle.ms_line.proofs.SaidLemmas.{short_read, long_past}
use Rattle.ms_line.proofs.read.read_line.Goals as goal

pub returns-then-is_short_line-clause-ok : goal.returns-then-is_short_line-clause-ok
returns-then-is_short_line-clause-ok c =
    short_read c.args.line.now c.in-Ok-Whole.found c.kept_line.result (rw c.in-Ok-Whole.field-0-is at c.in-Ok-Whole.ensures.ok) (sym c.is_short_line.ensures ∙ c.if-is_short_line.true) c.kept_line.ensures

pub returns-then-is_short_line-clause-again : goal.returns-then-is_short_line-clause-again
returns-then-is_short_line-clause-again c =
    read_again c.said_again.ensures c.args.line.now c.kept_line.result
    (short_read c.args.line.now c.in-Ok-Whole.found c.kept_line.result (rw c.in-Ok-Whole.field-0-is at c.in-Ok-Whole.ensures.ok) (sym c.is_short_line.ensures ∙ c.if-is_short_line.true) c.kept_line.ensures)

pub returns-else-is_short_line-clause-err : goal.returns-else-is_short_line-clause-err
returns-else-is_short_line-clause-err c =
    long_past c.args.line.now c.in-Ok-Whole.found (rw c.in-Ok-Whole.field-0-is at c.in-Ok-Whole.ensures.ok)
    (λ yes. not_true c.is_short_line.result c.if-is_short_line.false (c.is_short_line.ensures ∙ yes))
