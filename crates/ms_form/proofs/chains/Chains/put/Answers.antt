use Rattle.std.proofs.Common.{◌≡◌, ◌∙◌, ◌<◌, None, get_or, length, sym, refl, arith}
use Rattle.std.proofs.lemmas.List.{length-map, get_or_default}
use Rattle.ms_form.specs.Chains.{no_link}
use Rattle.ms_form.proofs.ChainLemmas.{chains-put, lists_kept, first_there, get_or-homes, homes-put}
use Rattle.ms_form.proofs.chains.Chains.put.Goals as goal

pub set_before-requires : goal.set_before-requires
set_before-requires c =
    let there : c.args.list < length c.self.inside.heads.items = simp length-map at (rw (← c.self.view_is) at c.requires.list) in
    let first_is : c.index-first.result.now ≡ get_or c.self.inside.heads.items c.args.list None = c.index-first.ensures ∙ get_or_default _ _ _ None there in
    rw (c.self.inside.links.ok.0) (first_there c.self.inside.links.items c.self.inside.heads.items _ c.args.list c.index-first.result.now c.self.invariant.0 there first_is)

pub invariant_of-self : goal.invariant_of-self
invariant_of-self c =
    let lt : c.args.number < length c.self.inside.links.items = simp length-map at (rw (← c.self.view_is) at c.requires.number) in
    let there : c.args.list < length c.self.inside.heads.items = simp length-map at (rw (← c.self.view_is) at c.requires.list) in
    let first_is : c.index-first.result.now ≡ get_or c.self.inside.heads.items c.args.list None = c.index-first.ensures ∙ get_or_default _ _ _ None there in
    let free : (get_or c.self.inside.links.items c.args.number no_link).home ≡ None = sym (get_or-homes c.self.inside.links.items c.args.number) ∙ (rw (← c.self.view_is) at c.requires.free) in
    let done = chains-put c.self.inside.links.items c.self.inside.heads.items _ c.args.number c.args.list c.index-first.result.now c.self.invariant.0 lt there free first_is in
    rw (c.set_before.ensures.items, lists_kept _ _ _ done) (done, omega arith, omega arith)

pub returns : goal.returns
returns c =
    let lt : c.args.number < length c.self.inside.links.items = simp length-map at (rw (← c.self.view_is) at c.requires.number) in
    let there : c.args.list < length c.self.inside.heads.items = simp length-map at (rw (← c.self.view_is) at c.requires.list) in
    let first_is : c.index-first.result.now ≡ get_or c.self.inside.heads.items c.args.list None = c.index-first.ensures ∙ get_or_default _ _ _ None there in
    let free : (get_or c.self.inside.links.items c.args.number no_link).home ≡ None = sym (get_or-homes c.self.inside.links.items c.args.number) ∙ (rw (← c.self.view_is) at c.requires.free) in
    let done = chains-put c.self.inside.links.items c.self.inside.heads.items _ c.args.number c.args.list c.index-first.result.now c.self.invariant.0 lt there free first_is in
    rw (c.set_before.ensures.items, lists_kept _ _ _ done, homes-put, ← c.self.view_is) refl
