use Rattle.std.proofs.Common.{arith, ap, refl}
use Rattle.std.proofs.lemmas.List.{map-append}
use Rattle.ms_form.specs.Chains.{ChainsState}
use Rattle.ms_form.proofs.ChainLemmas.{chains-grow, lists_kept}
use Rattle.ms_form.proofs.chains.Chains.grow.Goals as goal

pub invariant_of-self : goal.invariant_of-self
invariant_of-self c =
    let done = chains-grow c.self.inside.links.items c.self.inside.heads.items _ c.self.invariant.0 in
    let spare_is = ap (λ (s : ChainsState). s.spare) c.self.view_is in
    rw (c.push_reserved.ensures.items, c.push_reserved-2.ensures.items, lists_kept _ _ _ done) (done, omega arith, omega arith)

pub returns : goal.returns
returns c =
    let done = chains-grow c.self.inside.links.items c.self.inside.heads.items _ c.self.invariant.0 in
    rw (c.push_reserved.ensures.items, c.push_reserved-2.ensures.items, lists_kept _ _ _ done, ← c.self.view_is, map-append) refl
