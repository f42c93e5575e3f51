use Rattle.std.proofs.Common.{arith}
use Rattle.ms_ir.specs.Changes.{arg_with}
use Rattle.ms_ir.proofs.ChangeLemmas.{map_over_step, length-over}
use Rattle.ms_ir.proofs.items.Items+Arg.replace.Goals as goal

pub loop-arg-preserved : goal.loop-arg-preserved
loop-arg-preserved c =
    let same = length-over (arg_with c.args.l c.args.by) c.args.self.now c.loop-arg.arg-items c.loop-arg.arg-index c.loop-arg.invariant in
    rw c.replace.ensures (map_over_step (arg_with c.args.l c.args.by) c.args.self.now c.loop-arg.arg-items c.loop-arg.arg-index _ (omega (arith, same)) c.loop-arg.invariant (omega arith))
