use Rattle.std.proofs.Common.{◌<◌, length, subst, arith}
use Rattle.ms_ir.proofs.Along.{IsCursor, IsHere, here}
use Rattle.ms_walk.proofs.Marks.{mark_more}
use Rattle.ms_walk.proofs.turn.mark_block.Goals as goal

pub loop-k-preserved : goal.loop-k-preserved
loop-k-preserved c =
    let blocks = c.args.func.now.blocks in
    let b = c.args.b.0 in
    let k = c.loop-k.k in
    let h : IsHere blocks b k c.in-Some.i = here blocks b k c.in-Some.i c.requires.block (subst (IsCursor blocks b k) c.in-Some.is c.loop-k.invariant.cursor) in
    let within : c.in-Some.i.0 < length c.args.marks.now.items = let below = c.numbered.ensures.below_made b k h.x h.at.found in omega (arith, below, h.at.numbered, c.requires.made) in
    record {
      marked = mark_more blocks c.args.starts.now c.args.home.0 c.args.place b k _ _ c.in-Some.i.0 h.x c.is_past.result c.numbered.ensures.one_place within h.at c.is_past.ensures c.loop-k.invariant.marked;
      cursor = c.next_inst-at.ensures.there b k h.x h.at;
    }
