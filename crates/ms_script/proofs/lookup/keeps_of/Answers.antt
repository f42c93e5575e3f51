use Rattle.ms_attrs.proofs.MeaningLemmas.{some_keeps}
use Rattle.ms_script.proofs.lookup.keeps_of.Goals as goal

pub returns : goal.returns
returns c =
    let attrs = c.args.attrs.now in
    c.one_meaning.ensures.one_keeps attrs c.in_ok-keeps_by.field-0 (some_keeps attrs).0 c.in_ok-keeps_by.ensures (some_keeps attrs).1
