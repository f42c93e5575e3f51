use Rattle.ms_line_parts.proofs.Indexing.{indices_is, indices_whole}
use Rattle.ms_line_parts.proofs.objects.indices_front.Goals as goal

pub returns-clause-is : goal.returns-clause-is
returns-clause-is c = indices_is c.args.line.now c.args.tokens.now _ c.index_front.ensures.is

pub returns-clause-whole : goal.returns-clause-whole
returns-clause-whole c = indices_whole c.args.line.now c.args.tokens.now _ c.index_front.ensures.is
