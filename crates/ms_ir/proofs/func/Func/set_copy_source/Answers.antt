use Rattle.std.proofs.Common.{◌≡◌, ◌<◌, ◌∙◌, length, get_or, arith, refl, ap}
use Rattle.std.proofs.lemmas.List.{get_or_default}
use Rattle.ms_ir.specs.Func.{FuncState, no_node}
use Rattle.ms_ir.proofs.ChangeLemmas.{blocks-sourced, given-sourced}
use Rattle.ms_ir.proofs.func.Func.set_copy_source.Goals as goal

pub index_mut-requires : goal.index_mut-requires
index_mut-requires c =
    let made_is = ap (λ (v : FuncState). v.made) c.self.view_is in
    let there = c.requires in
    let lt = c.numbered.ensures.below_made there.0 there.1 there.2 there.3.found in
    omega (arith, lt, there.3.numbered, made_is)

pub invariant_of-self : goal.invariant_of-self
invariant_of-self c =
    let made_is = ap (λ (v : FuncState). v.made) c.self.view_is in
    let there = c.requires in
    let lt = c.numbered.ensures.below_made there.0 there.1 there.2 there.3.found in
    let in' : c.args.i.0 < length c.self.inside.nodes.items = omega (arith, lt, there.3.numbered, made_is, c.self.inside.nodes.ok.0) in
    let node_is : c.index_mut.result.now ≡ get_or c.self.inside.nodes.items c.args.i.0 no_node = c.index_mut.ensures.value ∙ get_or_default c.self.inside.nodes.items c.args.i.0 c.index_mut.result.now no_node in' in (
      omega arith,
      c.self.invariant.1,
      omega arith,
      c.self.invariant.3,
      c.self.invariant.4,
      given-sourced c.args.i.0 c.args.arg c.self.inside.nodes.items _ c.self.inside.results.items (length c.self.inside.params) c.self.invariant.5 in' (rw (c.set_source.ensures, node_is) refl),
    )

pub returns : goal.returns
returns c =
    let made_is = ap (λ (v : FuncState). v.made) c.self.view_is in
    let there = c.requires in
    let lt = c.numbered.ensures.below_made there.0 there.1 there.2 there.3.found in
    let in' : c.args.i.0 < length c.self.inside.nodes.items = omega (arith, lt, there.3.numbered, made_is, c.self.inside.nodes.ok.0) in
    let node_is : c.index_mut.result.now ≡ get_or c.self.inside.nodes.items c.args.i.0 no_node = c.index_mut.ensures.value ∙ get_or_default c.self.inside.nodes.items c.args.i.0 c.index_mut.result.now no_node in' in
    rw (← c.self.view_is, blocks-sourced c.args.i.0 c.args.arg c.self.inside.nodes.items (record { inst = c.set_source.new.inst; result = c.index_mut.result.now.result; name = c.index_mut.result.now.name }) c.self.inside.blocks.items c.self.inside.order.lists in' (rw (c.set_source.ensures, node_is) refl)) refl
