use Rattle.ms_form.proofs.ChainLemmas.{chains-exact}
use Rattle.ms_form.proofs.chains.Chains.exact.Goals as goal

pub returns : goal.returns
returns c = rw (← c.self.view_is) (chains-exact c.self.inside.links.items c.self.inside.heads.items _ c.self.invariant.0)
