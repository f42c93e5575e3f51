use Rattle.std.proofs.Common.{◌<◌, ◌+◌, length, refl, arith}
use Rattle.ms_session.specs.Annotated.{uses_from}
use Rattle.ms_session.specs.Shown.{reached_in}
use Rattle.ms_session.proofs.CountLemmas.{uses_more}
use Rattle.ms_session.proofs.counts.count_uses.Goals as goal

pub loop-b-preserved : goal.loop-b-preserved
loop-b-preserved c =
    let blocks = c.args.func.now.blocks in
    let reached = reached_in c.args.flow.now.graph in
    let within : c.loop-b.b < length blocks = omega arith in
    record {
      all = uses_more reached blocks c.loop-b.b c.reached_uses.result c.loop-b.uses (c.loop-b.uses + c.reached_uses.result) (uses_from reached 0 blocks)
          within c.reached_uses.ensures refl c.loop-b.invariant.all;
      few = omega arith;
    }
