use Rattle.std.proofs.Common.{refl}
use Rattle.ms_line_insts.proofs.Heads.{conversion_found, conversion_other, conversion_none}
use Rattle.ms_line_insts.proofs.simple.conversion_front.Goals as goal

pub returns-in_default : goal.returns-in_default
returns-in_default c = λ y ps g h. (rw c.in_default.is at c.in_ok-given.ensures) y.0 _ g.3 h

pub returns-in_default-type_lead : goal.returns-in_default-type_lead
returns-in_default-type_lead c = conversion_none c.args.op c.args.line.now c.args.tokens.now c.in-Some.at_word.now c.in-Some.given (rw c.in-Some.is at c.in_ok-given.ensures) c.in_default-type_lead.ensures

pub returns-then-converts : goal.returns-then-converts
returns-then-converts c =
    conversion_found c.args.op c.args.line.now c.args.tokens.now c.in-Some.at_word.now c.in-Some-type_lead.rest.now c.in-Some.given c.in-Some-type_lead.to (rw c.in-Some.is at c.in_ok-given.ensures) c.in-Some-type_lead.ensures (c.if-converts.ensures.yes refl)

pub returns-else-converts : goal.returns-else-converts
returns-else-converts c =
    conversion_other c.args.op c.args.line.now c.args.tokens.now c.in-Some.at_word.now c.in-Some-type_lead.rest.now c.in-Some.given c.in-Some-type_lead.to (rw c.in-Some.is at c.in_ok-given.ensures) c.in-Some-type_lead.ensures (c.if-converts.ensures.no refl)
