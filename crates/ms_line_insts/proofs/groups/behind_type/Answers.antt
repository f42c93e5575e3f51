use Rattle.std.proofs.Common.{refl}
use Rattle.ms_line_insts.proofs.Fronts.{type_lead, type_other}
use Rattle.ms_line_insts.proofs.groups.behind_type.Goals as goal

pub returns-then-same_type : goal.returns-then-same_type
returns-then-same_type c =
    type_lead c.args.line.now c.args.tokens.now c.in-Some.found c.args.ty c.in-Some.rest.now (c.if-same_type.ensures.yes refl) c.in-Some.ensures

pub returns-else-same_type : goal.returns-else-same_type
returns-else-same_type c =
    type_other c.args.line.now c.args.tokens.now c.in-Some.found c.args.ty c.in-Some.rest.now (c.if-same_type.ensures.no refl) c.in-Some.ensures
