use Rattle.ms_line_parts.proofs.CallFronts.{call_type_is, call_type_whole}
use Rattle.ms_line_parts.proofs.fronts.call_type_front.Goals as goal

pub returns-clause-is : goal.returns-clause-is
returns-clause-is c = call_type_is c.args.line.now c.args.tokens.now _ c.in_ok-bracketed_front.ensures.is

pub returns-clause-whole : goal.returns-clause-whole
returns-clause-whole c = call_type_whole c.args.line.now c.args.tokens.now _ c.in_ok-bracketed_front.ensures.is
