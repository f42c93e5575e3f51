use Rattle.ms_line_parts.proofs.KeptLines.{named_short}
use Rattle.ms_line_parts.proofs.wholes.is_named_line.Goals as goal

pub returns-in_default : goal.returns-in_default
returns-in_default c = named_short c.args.line.now c.args.tokens.now c.in_default.len_below
