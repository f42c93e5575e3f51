use Rattle.std.proofs.Common.{◌∙◌, ◌<◌, None, length, arith}
use Rattle.std.proofs.lemmas.List.{length-map, get_or_default}
use Rattle.ms_form.proofs.ChainLemmas.{first_there}
use Rattle.ms_form.proofs.chains.Chains.first.Goals as goal

pub returns-clause-below : goal.returns-clause-below
returns-clause-below c =
    let there : c.args.list < length c.self.inside.heads.items = omega (arith, c.self.inside.heads.ok.0) in
    rw (← c.self.view_is, length-map)
    (first_there c.self.inside.links.items c.self.inside.heads.items _ c.args.list c.index.result.now c.self.invariant.0 there (c.index.ensures ∙ get_or_default _ _ _ None there))
