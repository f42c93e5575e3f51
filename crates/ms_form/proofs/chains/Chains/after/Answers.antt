use Rattle.std.proofs.Common.{◌≡◌, ◌∙◌, ◌<◌, Some, get_or, length, ap, sym}
use Rattle.std.proofs.lemmas.List.{length-map}
use Rattle.ms_form.specs.declared.chains.Link.{Link}
use Rattle.ms_form.specs.Chains.{no_link}
use Rattle.ms_form.proofs.ChainLemmas.{chains-behind, neighbours_there, get_or-homes, link_at}
use Rattle.ms_form.proofs.chains.Chains.after.Goals as goal

pub returns-in-Some-clause-number : goal.returns-in-Some-clause-number
returns-in-Some-clause-number c =
    let lt : c.args.number < length c.self.inside.links.items = simp length-map at (rw (← c.self.view_is) at c.requires) in
    let link_is : get_or c.self.inside.links.items c.args.number no_link ≡ c.index-link.result.now = link_at _ _ _ c.index-link.ensures lt in
    let home_is : (get_or c.self.inside.links.items c.args.number no_link).home ≡ Some c.in-Some.field-0 = ap (λ (l : Link). l.home) link_is ∙ c.in-Some.is in
    rw (← c.self.view_is, get_or-homes c.self.inside.links.items c.args.number, home_is)
    (ap (λ (l : Link). l.after) (sym link_is) ∙ chains-behind c.self.inside.links.items c.self.inside.heads.items _ c.args.number c.in-Some.field-0 c.self.invariant.0 home_is)

pub returns-in-Some-clause-below : goal.returns-in-Some-clause-below
returns-in-Some-clause-below c =
    let lt : c.args.number < length c.self.inside.links.items = simp length-map at (rw (← c.self.view_is) at c.requires) in
    let link_is : get_or c.self.inside.links.items c.args.number no_link ≡ c.index-link.result.now = link_at _ _ _ c.index-link.ensures lt in
    let home_is : (get_or c.self.inside.links.items c.args.number no_link).home ≡ Some c.in-Some.field-0 = ap (λ (l : Link). l.home) link_is ∙ c.in-Some.is in
    rw (← c.self.view_is, length-map, ← link_is) (neighbours_there c.self.inside.links.items c.self.inside.heads.items _ c.args.number c.in-Some.field-0 c.self.invariant.0 home_is).1
