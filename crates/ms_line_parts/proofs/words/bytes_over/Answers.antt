use Rattle.std.proofs.Common.{◌∙◌}
use Rattle.ms_line_parts.proofs.Texts.{over}
use Rattle.ms_line_parts.proofs.words.bytes_over.Goals as goal

pub returns-in-len1-up : goal.returns-in-len1-up
returns-in-len1-up c = c.between.ensures ∙ over c.args.line.now c.args.tokens.now _ _ c.in-len1-up.len_at_least
