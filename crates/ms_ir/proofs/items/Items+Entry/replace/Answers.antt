use Rattle.std.proofs.Common.{arith}
use Rattle.ms_ir.specs.Changes.{entry_with}
use Rattle.ms_ir.proofs.ChangeLemmas.{map_over_step, length-over}
use Rattle.ms_ir.proofs.items.Items+Entry.replace.Goals as goal

pub loop-entry-preserved : goal.loop-entry-preserved
loop-entry-preserved c =
    let same = length-over (entry_with c.args.l c.args.by) c.args.self.now c.loop-entry.entry-items c.loop-entry.entry-index c.loop-entry.invariant in
    rw c.replace.ensures (map_over_step (entry_with c.args.l c.args.by) c.args.self.now c.loop-entry.entry-items c.loop-entry.entry-index _ (omega (arith, same)) c.loop-entry.invariant (omega arith))
