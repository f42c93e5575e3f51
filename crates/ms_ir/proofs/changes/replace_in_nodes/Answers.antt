use Rattle.std.proofs.Common.{arith}
use Rattle.ms_ir.specs.Changes.{node_with}
use Rattle.ms_ir.proofs.ChangeLemmas.{map_over_step, length-over}
use Rattle.ms_ir.proofs.changes.replace_in_nodes.Goals as goal

pub loop-node-preserved : goal.loop-node-preserved
loop-node-preserved c =
    let same = length-over (node_with c.args.l c.args.by) c.args.nodes.now.items c.loop-node.node-items c.loop-node.node-index c.loop-node.invariant in
    rw c.replace_in_inst.ensures (map_over_step (node_with c.args.l c.args.by) c.args.nodes.now.items c.loop-node.node-items c.loop-node.node-index _ (omega (arith, same)) c.loop-node.invariant (omega arith))
