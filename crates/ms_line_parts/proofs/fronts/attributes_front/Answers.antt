use Rattle.std.proofs.Common.{false}
use Rattle.ms_line_parts.proofs.Cut.{front_are, front_whole}
use Rattle.ms_line_parts.proofs.fronts.attributes_front.Goals as goal

pub returns-clause-are : goal.returns-clause-are
returns-clause-are c = front_are false c.args.line.now c.args.tokens.now _ c.in_ok-items_front.ensures.are

pub returns-clause-whole : goal.returns-clause-whole
returns-clause-whole c = front_whole false c.args.line.now c.args.tokens.now _ c.in_ok-items_front.ensures.are
