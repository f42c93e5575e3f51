use Rattle.ms_line_parts.proofs.Indexing.{more_short}
use Rattle.ms_line_parts.proofs.objects.starts_more.Goals as goal

pub returns-in_default-clause-is : goal.returns-in_default-clause-is
returns-in_default-clause-is c = more_short c.args.line.now c.args.tokens.now c.in_default.len_below
