use Rattle.std.proofs.Common.{Some, None, ap, ◌∙◌}
use Rattle.ms_alias.specs.Tables.{reach_in}
use Rattle.ms_alias.proofs.Turns.{loc_turning_made, loc_turning_one, unrooted_still}
use Rattle.ms_alias.proofs.alias.Alias.turning_of.Goals as goal

pub returns-in-Some-Span-clause-made : goal.returns-in-Some-Span-clause-made
returns-in-Some-Span-clause-made c =
    let p = c.in-Some-Span in
    loc_turning_made c.args.func.now c.args.self.now c.requires c.args.loc.now (reach_in c.loc_touch.result) c.loc_touch.ensures p.root p.field-0-1 p.field-0-2 (ap reach_in (p.is ∙ ap Some p.field-0-is)) c.turning.result c.turning.ensures.made

pub returns-in-Some-Span-clause-one : goal.returns-in-Some-Span-clause-one
returns-in-Some-Span-clause-one c =
    let p = c.in-Some-Span in
    loc_turning_one c.args.func.now c.args.self.now c.requires c.args.loc.now (reach_in c.loc_touch.result) c.loc_touch.ensures p.root p.field-0-1 p.field-0-2 (ap reach_in (p.is ∙ ap Some p.field-0-is)) c.turning.result c.turning.ensures.one

pub returns-in-Some-Call-clause-made : goal.returns-in-Some-Call-clause-made
returns-in-Some-Call-clause-made c =
    let p = c.in-Some-Call in
    unrooted_still c.args.func.now c.args.self.now c.requires c.args.loc.now (reach_in c.loc_touch.result) c.loc_touch.ensures _ (ap reach_in (p.is ∙ ap Some p.field-0-is)) tt

pub returns-in-None-clause-made : goal.returns-in-None-clause-made
returns-in-None-clause-made c = unrooted_still c.args.func.now c.args.self.now c.requires c.args.loc.now (reach_in c.loc_touch.result) c.loc_touch.ensures None (ap reach_in c.in-None.is) tt
