use Rattle.std.proofs.Common.{◌+◌, List, drop, subst, refl, arith}
use Rattle.ms_ir.specs.Func.{Placed, insts_at}
use Rattle.ms_session.specs.Annotated.{uses_in}
use Rattle.ms_ir.proofs.Along.{IsCursor, IsHere, here, there}
use Rattle.ms_session.proofs.CountLemmas.{insts_more}
use Rattle.ms_session.proofs.counts.block_uses.Goals as goal

pub loop-place-preserved : goal.loop-place-preserved
loop-place-preserved c =
    let blocks = c.args.func.now.blocks in
    let b = c.args.b.0 in
    let k = c.loop-place.place in
    let insts : List Placed = insts_at blocks b in
    let h : IsHere blocks b k c.in-Some.i = here blocks b k c.in-Some.i c.requires (subst (IsCursor blocks b k) c.in-Some.is c.loop-place.invariant.cursor) in
    record {
      all = insts_more c.one_if_use-uses.result c.loop-place.uses (c.loop-place.uses + c.one_if_use-uses.result) h.x (drop k insts) (drop (k + 1) insts) (uses_in insts)
          (c.one_if_use-uses.ensures.at b k h.x h.at) refl (there insts k h.x h.at.found) c.loop-place.invariant.all;
      few = omega (arith, c.one_if_use-uses.ensures.few, c.loop-place.invariant.few);
      cursor = c.next_inst-at.ensures.there b k h.x h.at;
    }
