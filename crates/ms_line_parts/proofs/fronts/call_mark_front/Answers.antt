use Rattle.ms_line_parts.proofs.CallFronts.{call_mark_is, call_mark_whole}
use Rattle.ms_line_parts.proofs.fronts.call_mark_front.Goals as goal

pub returns-clause-is : goal.returns-clause-is
returns-clause-is c = call_mark_is c.args.line.now c.args.tokens.now c.call_mark.result c.call_mark.ensures.is

pub returns-clause-whole : goal.returns-clause-whole
returns-clause-whole c = call_mark_whole c.args.line.now c.args.tokens.now c.call_mark.result c.call_mark.ensures.is
