use Rattle.ms_line_parts.proofs.Offsets.{first_short}
use Rattle.ms_line_parts.proofs.objects.first_index.Goals as goal

pub returns-in_default-clause-is : goal.returns-in_default-clause-is
returns-in_default-clause-is c = first_short c.args.line.now c.args.tokens.now c.in_default.len_below
