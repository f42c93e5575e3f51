use Rattle.std.proofs.Common.{◌≡◌, ◌<◌, ◌∙◌, [], length, get_or, arith, refl, ap, sym}
use Rattle.ms_ir.specs.declared.func.BlockParts.{BlockParts}
use Rattle.ms_ir.specs.Func.{no_block, blocks_of}
use Rattle.ms_ir.specs.Changes.{kept_target, cut_target}
use Rattle.ms_ir.proofs.FuncLemmas.{length-blocks_of, term_at}
use Rattle.ms_ir.proofs.ChangeLemmas.{edge-cut_there, edge-cut_past, given-lost}
use Rattle.ms_ir.proofs.func.Func.cut_edge.Goals as goal

pub index-requires : goal.index-requires
index-requires c =
    let within = rw (← c.self.view_is) at c.requires.block in
    omega (arith, within, length-blocks_of c.self.inside.nodes.items c.self.inside.blocks.items c.self.inside.order.lists, c.self.inside.blocks.ok.0)

pub index_mut-requires : goal.index_mut-requires
index_mut-requires c =
    let within = rw (← c.self.view_is) at c.requires.block in
    omega (arith, within, length-blocks_of c.self.inside.nodes.items c.self.inside.blocks.items c.self.inside.order.lists, c.self.inside.blocks.ok.0)

pub cut_targets-requires-clause-branch : goal.cut_targets-requires-clause-branch
cut_targets-requires-clause-branch c =
    let in' : c.args.b.0 < length c.self.inside.blocks.items = (let within = rw (← c.self.view_is) at c.requires.block in omega (arith, within, length-blocks_of c.self.inside.nodes.items c.self.inside.blocks.items c.self.inside.order.lists)) in
    let term_is : c.index.result.now.term ≡ (get_or (blocks_of c.self.inside.nodes.items c.self.inside.blocks.items c.self.inside.order.lists) c.args.b.0 no_block).term =
    ap (λ (p : BlockParts). p.term) c.index.ensures ∙ sym (term_at c.self.inside.nodes.items c.self.inside.blocks.items c.self.inside.order.lists c.args.b.0 c.index.result.now in') in
    rw term_is (rw (← c.self.view_is) at c.requires.branch)

pub invariant_of-self : goal.invariant_of-self
invariant_of-self c = (
  omega arith,
  omega arith,
  omega arith,
  c.self.invariant.3,
  c.self.invariant.4,
  given-lost c.self.inside.nodes.items c.lose_entries.new.nodes.items c.self.inside.results.items (length c.self.inside.params) c.args.b.0 (get_or c.self.inside.order.lists c.cut_targets.result.1.0 []) c.self.invariant.5 (omega (arith, c.lose_entries.ensures.len, c.self.inside.nodes.ok.0, c.lose_entries.new.nodes.ok.0)) c.lose_entries.ensures.listed c.lose_entries.ensures.others,
)

pub returns-then-cut-block_count : goal.returns-then-cut-block_count
returns-then-cut-block_count c =
    let same : length c.self.inside.blocks.items ≡ length c.self.inside.order.lists = omega (arith, c.self.inside.blocks.ok.0) in
    let in' : c.args.b.0 < length c.self.inside.blocks.items = (let within = rw (← c.self.view_is) at c.requires.block in omega (arith, within, length-blocks_of c.self.inside.nodes.items c.self.inside.blocks.items c.self.inside.order.lists)) in
    let term_is : c.index.result.now.term ≡ (get_or (blocks_of c.self.inside.nodes.items c.self.inside.blocks.items c.self.inside.order.lists) c.args.b.0 no_block).term =
    ap (λ (p : BlockParts). p.term) c.index.ensures ∙ sym (term_at c.self.inside.nodes.items c.self.inside.blocks.items c.self.inside.order.lists c.args.b.0 c.index.result.now in') in
    rw (
      ← c.self.view_is,
      edge-cut_there c.self.inside.nodes.items c.lose_entries.new.nodes.items c.self.inside.blocks.items c.self.inside.order.lists c.args.b.0 c.args.slot c.index_mut.result.now c.cut_targets.result.0 c.cut_targets.result.1 c.new.result in' c.index_mut.ensures.value
          (c.cut_targets.ensures.kept ∙ ap (λ t. kept_target t c.args.slot) term_is) (c.cut_targets.ensures.cut ∙ ap (λ t. cut_target t c.args.slot) term_is) c.new.ensures same c.listed_once.ensures.once
          c.lose_entries.ensures.listed c.lose_entries.ensures.others,
    ) refl

pub returns-else-cut-block_count : goal.returns-else-cut-block_count
returns-else-cut-block_count c =
    let same : length c.self.inside.blocks.items ≡ length c.self.inside.order.lists = omega (arith, c.self.inside.blocks.ok.0) in
    let in' : c.args.b.0 < length c.self.inside.blocks.items = (let within = rw (← c.self.view_is) at c.requires.block in omega (arith, within, length-blocks_of c.self.inside.nodes.items c.self.inside.blocks.items c.self.inside.order.lists)) in
    let term_is : c.index.result.now.term ≡ (get_or (blocks_of c.self.inside.nodes.items c.self.inside.blocks.items c.self.inside.order.lists) c.args.b.0 no_block).term =
    ap (λ (p : BlockParts). p.term) c.index.ensures ∙ sym (term_at c.self.inside.nodes.items c.self.inside.blocks.items c.self.inside.order.lists c.args.b.0 c.index.result.now in') in
    rw (
      ← c.self.view_is,
      edge-cut_past c.self.inside.nodes.items c.self.inside.blocks.items c.self.inside.order.lists c.args.b.0 c.args.slot c.index_mut.result.now c.cut_targets.result.0 c.cut_targets.result.1 c.new.result in' c.index_mut.ensures.value
          (c.cut_targets.ensures.kept ∙ ap (λ t. kept_target t c.args.slot) term_is) (c.cut_targets.ensures.cut ∙ ap (λ t. cut_target t c.args.slot) term_is) c.new.ensures (omega (arith, same)),
    ) refl
