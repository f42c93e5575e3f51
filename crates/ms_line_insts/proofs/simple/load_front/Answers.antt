use Rattle.std.proofs.Common.{refl}
use Rattle.ms_grammar.specs.Kept.{IsStored}
use Rattle.ms_grammar.specs.declared.keyword.Keyword.TheVariants as word
use Rattle.ms_line_insts.specs.Ends.{type_lead_parts}
use Rattle.ms_line_insts.proofs.Heads.{front_tested, none_tested}
use Rattle.ms_line_insts.proofs.simple.load_front.Goals as goal

pub returns-in_default : goal.returns-in_default
returns-in_default c = λ y ps g h. c.in_default.ensures y ps tt h

pub returns-then-is_stored : goal.returns-then-is_stored
returns-then-is_stored c =
    front_tested IsStored (type_lead_parts word.Load) c.args.line.now c.args.tokens.now c.in-Some.ty c.in-Some.rest.now c.in-Some.ensures (c.if-is_stored.ensures.yes refl)

pub returns-else-is_stored : goal.returns-else-is_stored
returns-else-is_stored c =
    none_tested IsStored (type_lead_parts word.Load) c.args.line.now c.args.tokens.now c.in-Some.ty c.in-Some.rest.now c.in-Some.ensures (c.if-is_stored.ensures.no refl)
