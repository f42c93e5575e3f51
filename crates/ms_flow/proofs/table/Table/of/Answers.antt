use Rattle.std.proofs.Common.{sym, subst, ap, ◌∙◌, arith}
use Rattle.std.proofs.lemmas.List.{take_all}
use Rattle.ms_ir.specs.Func.{no_block}
use Rattle.ms_paths.specs.Flow.{IsClosed}
use Rattle.ms_ir.specs.Graph.{successors}
use Rattle.ms_flow.specs.Table.{edges_of, edges}
use Rattle.ms_flow.proofs.Tables.{edges_more, within_closed, edges_closed}
use Rattle.ms_flow.proofs.table.Table.of.Goals as goal

pub loop-b-preserved : goal.loop-b-preserved
loop-b-preserved c =
    let count = c.block_count-blocks.ensures in (
      ap edges c.in_ok-push.ensures.items
          ∙ edges_more c.loop-b.targets.items c.of.result c.args.func.now.blocks c.loop-b.b no_block (omega arith) (c.of.ensures ∙ ap successors c.term.ensures.term) c.loop-b.invariant.0,
      omega (arith, c.in_ok-push.ensures.len),
    )

pub invariant_of-result : goal.invariant_of-result
invariant_of-result c =
    let count = c.block_count-blocks.ensures in
    let last = c.loop-b-test.false in
    let bs = c.args.func.now.blocks in
    let all = take_all c.loop-b.b bs (omega arith) in
    (within_closed c.loop-b.targets.items bs _ c.requires (c.loop-b.invariant.0 ∙ ap edges_of all) (omega arith), omega arith)

pub returns-clause-closed : goal.returns-clause-closed
returns-clause-closed c =
    let count = c.block_count-blocks.ensures in
    let last = c.loop-b-test.false in
    let bs = c.args.func.now.blocks in
    let all = take_all c.loop-b.b bs (omega arith) in
    subst IsClosed (sym (c.loop-b.invariant.0 ∙ ap edges_of all)) (edges_closed bs c.requires)
