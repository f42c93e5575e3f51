use Rattle.std.proofs.Common.{◌≡◌, ◌∙◌, length, arith, ap, sym}
use Rattle.std.proofs.lemmas.List.{get_or_default}
use Rattle.ms_ir.specs.Func.{placed, no_node, parts_of}
use Rattle.ms_ir.proofs.FuncLemmas.{at_listed, nowhere_listed, parts_by_number}
use Rattle.ms_ir.proofs.func.Func.node.Goals as goal

pub returns-in-Some-clause-found : goal.returns-in-Some-clause-found
returns-in-Some-clause-found c =
    let same : length c.self.inside.blocks.items ≡ length c.self.inside.order.lists = omega (arith, c.self.inside.blocks.ok.0) in
    let node_is = get_or_default c.self.inside.nodes.items c.args.i.0 no_node c.index.result.now (omega (arith, c.in-Some.ensures.below, c.self.inside.nodes.ok.0)) ∙ sym c.index.ensures in
    let there = c.in-Some.ensures.block in
    rw (← c.self.view_is) (
      c.in-Some.field-0,
      there.0,
      placed c.self.inside.nodes.items c.args.i.0,
      at_listed c.self.inside.nodes.items c.self.inside.blocks.items c.self.inside.order.lists c.args.i.0 c.in-Some.field-0 there.0 same there.1 there.2,
      ap parts_of node_is,
    )

pub returns-in-Some-clause-each : goal.returns-in-Some-clause-each
returns-in-Some-clause-each c =
    let same : length c.self.inside.blocks.items ≡ length c.self.inside.order.lists = omega (arith, c.self.inside.blocks.ok.0) in
    let node_is = get_or_default c.self.inside.nodes.items c.args.i.0 no_node c.index.result.now (omega (arith, c.in-Some.ensures.below, c.self.inside.nodes.ok.0)) ∙ sym c.index.ensures in
    rw (← c.self.view_is) (λ b place x at. parts_by_number c.self.inside.nodes.items c.self.inside.blocks.items c.self.inside.order.lists c.args.i.0 b place x same at ∙ ap parts_of node_is)

pub returns-in-None-clause-found : goal.returns-in-None-clause-found
returns-in-None-clause-found c =
    let same : length c.self.inside.blocks.items ≡ length c.self.inside.order.lists = omega (arith, c.self.inside.blocks.ok.0) in
    rw (← c.self.view_is) (nowhere_listed c.self.inside.nodes.items c.self.inside.blocks.items c.self.inside.order.lists c.args.i.0 same c.in-None.ensures.block)
