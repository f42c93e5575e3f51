use Rattle.ms_line_parts.proofs.Offsets.{next_short}
use Rattle.ms_line_parts.proofs.objects.next_index.Goals as goal

pub returns-in_default : goal.returns-in_default
returns-in_default c = next_short c.args.line.now c.args.tokens.now c.in_default.len_below
