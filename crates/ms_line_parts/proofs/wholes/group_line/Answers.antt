use Rattle.std.proofs.Common.{sym, ◌∙◌}
use Rattle.ms_line_parts.proofs.KeptLines.{no_group, group_told}
use Rattle.ms_line_parts.proofs.wholes.group_line.Goals as goal

pub returns-then-not-branch : goal.returns-then-not-branch
returns-then-not-branch c = λ n small is. no_group _ _ n c.in_ok-has_group_shape.ensures c.if-not-branch.true is

pub returns-in-len2-up : goal.returns-in-len2-up
returns-in-len2-up c = group_told c.args.line.now c.args.tokens.now _ c.group_at.result (sym c.in_ok-has_group_shape.ensures ∙ c.if-not-branch.false) c.group_at.ensures
