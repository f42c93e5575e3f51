use Rattle.std.proofs.Common.{arith}
use Rattle.ms_ir.specs.Changes.{parts_with}
use Rattle.ms_ir.proofs.ChangeLemmas.{map_over_step, length-over}
use Rattle.ms_ir.proofs.changes.replace_in_parts.Goals as goal

pub loop-block-preserved : goal.loop-block-preserved
loop-block-preserved c =
    let same = length-over (parts_with c.args.l c.args.by) c.args.parts.now.items c.loop-block.block-items c.loop-block.block-index c.loop-block.invariant in
    rw c.replace_in_term.ensures (map_over_step (parts_with c.args.l c.args.by) c.args.parts.now.items c.loop-block.block-items c.loop-block.block-index _ (omega (arith, same)) c.loop-block.invariant (omega arith))
