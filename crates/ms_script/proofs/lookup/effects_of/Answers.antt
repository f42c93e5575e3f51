use Rattle.ms_attrs.proofs.MeaningLemmas.{some_effects}
use Rattle.ms_script.proofs.lookup.effects_of.Goals as goal

pub returns : goal.returns
returns c =
    let post = c.args.post.now in
    let groups = c.args.groups.now in
    c.one_meaning.ensures.one_effects post groups c.in_ok-effects_by.field-0 (some_effects post groups).0 c.in_ok-effects_by.ensures (some_effects post groups).1
