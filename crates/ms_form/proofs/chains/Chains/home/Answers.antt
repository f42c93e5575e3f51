use Rattle.std.proofs.Common.{◌<◌, length, refl, arith}
use Rattle.ms_form.proofs.ChainLemmas.{home_below, link_at}
use Rattle.ms_form.proofs.chains.Chains.home.Goals as goal

pub returns-clause-below : goal.returns-clause-below
returns-clause-below c =
    let lt : c.args.number < length c.self.inside.links.items = omega (arith, c.self.inside.links.ok.0) in
    rw (← c.self.view_is, ← link_at c.self.inside.links.items c.args.number c.index.result.now c.index.ensures lt)
    (home_below c.self.inside.links.items c.self.inside.heads.items _ c.args.number _ c.self.invariant.0 refl)
