use Rattle.std.proofs.Common.{arith}
use Rattle.ms_ir.specs.Changes.{index_with}
use Rattle.ms_ir.proofs.ChangeLemmas.{map_over_step, length-over}
use Rattle.ms_ir.proofs.items.Items+IndexTerm.replace.Goals as goal

pub loop-term-preserved : goal.loop-term-preserved
loop-term-preserved c =
    let same = length-over (index_with c.args.l c.args.by) c.args.self.now c.loop-term.term-items c.loop-term.term-index c.loop-term.invariant in
    rw c.replace.ensures (map_over_step (index_with c.args.l c.args.by) c.args.self.now c.loop-term.term-items c.loop-term.term-index _ (omega (arith, same)) c.loop-term.invariant (omega arith))
