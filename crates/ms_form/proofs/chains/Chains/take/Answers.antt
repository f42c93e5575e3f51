use Rattle.std.proofs.Common.{◌≡◌, ◌∙◌, ◌<◌, Some, None, get_or, set, length, map, ap, sym, refl, arith}
use Rattle.std.proofs.lemmas.List.{length-map, get_or_default, set-get_or}
use Rattle.ms_form.specs.declared.chains.Link.{Link}
use Rattle.ms_form.specs.Chains.{no_link, home_of, first_left}
use Rattle.ms_form.proofs.ChainLemmas.{chains-take, lists_kept, home_there, neighbours_there, link_at, get_or-homes, homes-take, none-without}
use Rattle.ms_form.proofs.chains.Chains.take.Goals as goal

pub set_after-requires : goal.set_after-requires
set_after-requires c =
    let lt : c.args.number < length c.self.inside.links.items = simp length-map at (rw (← c.self.view_is) at c.requires) in
    let link_is : get_or c.self.inside.links.items c.args.number no_link ≡ c.index-link.result.now = link_at _ _ _ c.index-link.ensures lt in
    let home_is : (get_or c.self.inside.links.items c.args.number no_link).home ≡ Some c.in-Some.list = ap (λ (l : Link). l.home) link_is ∙ c.in-Some.is in
    rw (c.self.inside.links.ok.0, ← link_is) (neighbours_there c.self.inside.links.items c.self.inside.heads.items _ c.args.number c.in-Some.list c.self.invariant.0 home_is).0

pub set_before-requires : goal.set_before-requires
set_before-requires c =
    let lt : c.args.number < length c.self.inside.links.items = simp length-map at (rw (← c.self.view_is) at c.requires) in
    let link_is : get_or c.self.inside.links.items c.args.number no_link ≡ c.index-link.result.now = link_at _ _ _ c.index-link.ensures lt in
    let home_is : (get_or c.self.inside.links.items c.args.number no_link).home ≡ Some c.in-Some.list = ap (λ (l : Link). l.home) link_is ∙ c.in-Some.is in
    rw (c.set_after.ensures.len, c.self.inside.links.ok.0, ← link_is) (neighbours_there c.self.inside.links.items c.self.inside.heads.items _ c.args.number c.in-Some.list c.self.invariant.0 home_is).1

pub index-requires : goal.index-requires
index-requires c =
    let lt : c.args.number < length c.self.inside.links.items = simp length-map at (rw (← c.self.view_is) at c.requires) in
    let link_is : get_or c.self.inside.links.items c.args.number no_link ≡ c.index-link.result.now = link_at _ _ _ c.index-link.ensures lt in
    let home_is : (get_or c.self.inside.links.items c.args.number no_link).home ≡ Some c.in-Some.list = ap (λ (l : Link). l.home) link_is ∙ c.in-Some.is in
    omega (arith, home_there c.self.inside.links.items c.self.inside.heads.items _ c.args.number c.in-Some.list c.self.invariant.0 home_is, c.self.inside.heads.ok.0)

pub index_mut-requires : goal.index_mut-requires
index_mut-requires c =
    let lt : c.args.number < length c.self.inside.links.items = simp length-map at (rw (← c.self.view_is) at c.requires) in
    let link_is : get_or c.self.inside.links.items c.args.number no_link ≡ c.index-link.result.now = link_at _ _ _ c.index-link.ensures lt in
    let home_is : (get_or c.self.inside.links.items c.args.number no_link).home ≡ Some c.in-Some.list = ap (λ (l : Link). l.home) link_is ∙ c.in-Some.is in
    omega (arith, home_there c.self.inside.links.items c.self.inside.heads.items _ c.args.number c.in-Some.list c.self.invariant.0 home_is, c.self.inside.heads.ok.0)

pub invariant_of-self : goal.invariant_of-self
invariant_of-self c =
    let lt : c.args.number < length c.self.inside.links.items = simp length-map at (rw (← c.self.view_is) at c.requires) in
    let link_is : get_or c.self.inside.links.items c.args.number no_link ≡ c.index-link.result.now = link_at _ _ _ c.index-link.ensures lt in
    let home_is : (get_or c.self.inside.links.items c.args.number no_link).home ≡ Some c.in-Some.list = ap (λ (l : Link). l.home) link_is ∙ c.in-Some.is in
    let there : c.in-Some.list < length c.self.inside.heads.items = home_there c.self.inside.links.items c.self.inside.heads.items _ c.args.number c.in-Some.list c.self.invariant.0 home_is in
    let first_is : c.first_after.result ≡ first_left c.index-link.result.now.before c.index-link.result.now.after (get_or c.self.inside.heads.items c.in-Some.list None) =
    c.first_after.ensures ∙ ap (first_left c.index-link.result.now.before c.index-link.result.now.after) (c.index.ensures ∙ get_or_default _ _ _ None there) in
    let done = chains-take c.self.inside.links.items c.self.inside.heads.items _ c.args.number c.in-Some.list c.index-link.result.now.before c.index-link.result.now.after c.self.invariant.0 home_is (ap (λ (l : Link). l.before) link_is) (ap (λ (l : Link). l.after) link_is) in
    rw (c.set_before.ensures.items, c.set_after.ensures.items, first_is, lists_kept _ _ _ done) (done, omega arith, omega arith)

pub returns-in-Some : goal.returns-in-Some
returns-in-Some c =
    let lt : c.args.number < length c.self.inside.links.items = simp length-map at (rw (← c.self.view_is) at c.requires) in
    let link_is : get_or c.self.inside.links.items c.args.number no_link ≡ c.index-link.result.now = link_at _ _ _ c.index-link.ensures lt in
    let home_is : (get_or c.self.inside.links.items c.args.number no_link).home ≡ Some c.in-Some.list = ap (λ (l : Link). l.home) link_is ∙ c.in-Some.is in
    let there : c.in-Some.list < length c.self.inside.heads.items = home_there c.self.inside.links.items c.self.inside.heads.items _ c.args.number c.in-Some.list c.self.invariant.0 home_is in
    let first_is : c.first_after.result ≡ first_left c.index-link.result.now.before c.index-link.result.now.after (get_or c.self.inside.heads.items c.in-Some.list None) =
    c.first_after.ensures ∙ ap (first_left c.index-link.result.now.before c.index-link.result.now.after) (c.index.ensures ∙ get_or_default _ _ _ None there) in
    let done = chains-take c.self.inside.links.items c.self.inside.heads.items _ c.args.number c.in-Some.list c.index-link.result.now.before c.index-link.result.now.after c.self.invariant.0 home_is (ap (λ (l : Link). l.before) link_is) (ap (λ (l : Link). l.after) link_is) in
    rw (c.set_before.ensures.items, c.set_after.ensures.items, first_is, lists_kept _ _ _ done, homes-take, ← c.self.view_is) refl

pub returns-in_default : goal.returns-in_default
returns-in_default c =
    let lt : c.args.number < length c.self.inside.links.items = simp length-map at (rw (← c.self.view_is) at c.requires) in
    let link_is : get_or c.self.inside.links.items c.args.number no_link ≡ c.index-link.result.now = link_at _ _ _ c.index-link.ensures lt in
    let home_is : (get_or c.self.inside.links.items c.args.number no_link).home ≡ None = ap (λ (l : Link). l.home) link_is ∙ c.in_default.is in
    let homes_are : set (map home_of c.self.inside.links.items) c.args.number None ≡ map home_of c.self.inside.links.items =
    ap (set (map home_of c.self.inside.links.items) c.args.number) (sym (get_or-homes c.self.inside.links.items c.args.number ∙ home_is)) ∙ set-get_or (map home_of c.self.inside.links.items) c.args.number None in
    rw (← c.self.view_is, homes_are, none-without c.self.inside.links.items c.self.inside.heads.items _ c.args.number c.self.invariant.0 home_is) refl
