use Rattle.std.proofs.Common.{◌≡◌, length, arith, refl}
use Rattle.std.proofs.lemmas.List.{length-map}
use Rattle.ms_ir.specs.Changes.{node_with, parts_with}
use Rattle.ms_ir.proofs.ChangeLemmas.{blocks-replaced, given-replaced}
use Rattle.ms_ir.proofs.func.Func.replace_local.Goals as goal

pub invariant_of-self : goal.invariant_of-self
invariant_of-self c =
    let nodes : length c.replace_in_nodes.new.nodes.items ≡ length c.self.inside.nodes.items = rw c.replace_in_nodes.ensures.items (length-map c.self.inside.nodes.items (node_with c.args.l c.args.by)) in
    let parts : length c.replace_in_parts.new.parts.items ≡ length c.self.inside.blocks.items = rw c.replace_in_parts.ensures (length-map c.self.inside.blocks.items (parts_with c.args.l c.args.by)) in (
      omega (arith, nodes, c.self.inside.nodes.ok.0, c.replace_in_nodes.new.nodes.ok.0),
      omega (arith, parts, c.self.inside.blocks.ok.0, c.replace_in_parts.new.parts.ok.0),
      omega (arith, nodes, c.self.inside.nodes.ok.0, c.replace_in_nodes.new.nodes.ok.0),
      c.self.invariant.3,
      c.self.invariant.4,
      rw c.replace_in_nodes.ensures.items (given-replaced c.args.l c.args.by c.self.inside.nodes.items c.self.inside.results.items (length c.self.inside.params) c.self.invariant.5),
    )

pub returns : goal.returns
returns c =
    rw (← c.self.view_is, c.replace_in_nodes.ensures.items, c.replace_in_parts.ensures, blocks-replaced c.args.l c.args.by c.self.inside.nodes.items c.self.inside.blocks.items c.self.inside.order.lists) refl
