use Rattle.std.proofs.Common.{◌∙◌, arith, length-set}
use Rattle.ms_flow.specs.Flow.{IsOnCycle}
use Rattle.ms_flow.proofs.Paths.{told_more}
use Rattle.ms_flow.proofs.search.cycles.Goals as goal

pub loop-b-preserved : goal.loop-b-preserved
loop-b-preserved c =
    let blocks = c.loop-b.invariant.0 in
    let len = c.len-b-end.ensures.len in (
      length-set c.loop-b.cyclic.items c.loop-b.b c.is_on_cycle.result ∙ blocks,
      told_more (IsOnCycle c.args.table.now) c.loop-b.cyclic.items c.loop-b.b c.is_on_cycle.result (omega arith) c.loop-b.invariant.1 c.is_on_cycle.ensures.cycle,
      c.is_on_cycle.ensures.blocks,
    )
