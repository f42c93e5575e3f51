use Rattle.std.proofs.Common.{Some, ap}
use Rattle.ms_line_parts.proofs.Sizing.{object_is, object_whole, object_none}
use Rattle.ms_line_parts.proofs.objects.object_front.Goals as goal

pub returns-then-ends_object-clause-is : goal.returns-then-ends_object-clause-is
returns-then-ends_object-clause-is c = object_is c.args.line.now c.args.tokens.now c.levels-k.result c.ends_object.result c.levels-k.ensures.is c.ends_object.ensures.is c.if-ends_object.true

pub returns-then-ends_object-clause-whole : goal.returns-then-ends_object-clause-whole
returns-then-ends_object-clause-whole c = λ run rest sizes cut h. ap Some (object_whole c.args.line.now c.args.tokens.now run rest sizes c.levels-k.result c.levels-k.ensures.is cut h)

pub returns-else-ends_object-clause-whole : goal.returns-else-ends_object-clause-whole
returns-else-ends_object-clause-whole c = λ run rest sizes cut h.
    absurd (object_none c.args.line.now c.args.tokens.now c.levels-k.result c.ends_object.result c.levels-k.ensures.is c.ends_object.ensures.is c.if-ends_object.false run rest sizes cut h)
