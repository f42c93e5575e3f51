use Rattle.ms_line_parts.proofs.Indexing.{index_short}
use Rattle.ms_line_parts.proofs.objects.index_front.Goals as goal

pub returns-in_default-clause-is : goal.returns-in_default-clause-is
returns-in_default-clause-is c = index_short c.args.line.now c.args.tokens.now c.in_default.len_below
