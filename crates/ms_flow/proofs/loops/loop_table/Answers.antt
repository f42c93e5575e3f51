use Rattle.std.proofs.Common.{◌≡◌, ◌<◌, ◌↔◌, true, false, length, get_or, refl, sym, ap, ◌∙◌, arith, length-set}
use Rattle.std.specs.Prelude.{None, is_some}
use Rattle.std.proofs.lemmas.Bool.{both_ways, leb-true, le-leb}
use Rattle.std.proofs.lemmas.List.{get_or_default}
use Rattle.ms_flow.specs.Flow.{order_of}
use Rattle.ms_flow.proofs.Lows.{low_told}
use Rattle.ms_flow.proofs.Orders.{order_reached}
use Rattle.ms_flow.proofs.Paths.{told_more}
use Rattle.ms_flow.proofs.Rises.{FallsBack, cycle_falls, falls_cycle}
use Rattle.ms_flow.proofs.loops.loop_table.Goals as goal
use Rattle.ms_flow.proofs.loops.loop_table.Goals.{in-Some, in-None}

pub loop-b-preserved : goal.loop-b-preserved
loop-b-preserved c =
    let g = c.args.table.now in
    let b = c.loop-b.b in
    let closed = c.requires.closed in
    let lows = c.lows.new.lows.items in
    let items = c.loop-b.cyclic.items in
    let len = c.len-b-end.ensures.len in
    let within : b < length g = omega arith in
    let blocks = c.loop-b.invariant.0 in
    let low_blocks = c.lows.ensures.blocks in
    let stands = c.requires.ordered.places b within in
    let told : (c.match-order-b.value ≡ true) ↔ FallsBack g b = elim c.match-order-b.branch [
      | in-Some w ↦
          let low : w.index.result.now ≡ get_or lows b 0 = w.index.ensures ∙ get_or_default lows b w.index.result.now 0 (omega arith) in
          let back = low_told g closed lows b w.in-Some.place c.lows.ensures (sym stands ∙ w.in-Some.is) in
          rw (w.value-is, low) (λ t. back.0 (leb-true _ _ t), λ f. le-leb _ _ (back.1 f))
      | in-None w ↦
          let is : order_of g b ≡ None = sym stands ∙ w.in-None.is in
          rw w.value-is (λ t. absurd (both_ways false refl t), λ f. absurd (both_ways false refl (sym (ap is_some is) ∙ (order_reached g closed b).1 f.0)))
    ] in
    (length-set items b c.match-order-b.value ∙ blocks, told_more (FallsBack g) items b c.match-order-b.value (omega arith) c.loop-b.invariant.1 told)

pub returns-clause-cycles : goal.returns-clause-cycles
returns-clause-cycles c = λ red.
    let g = c.args.table.now in
    let order = c.order_told.ensures.order g c.requires.closed red in
    let len = c.len-b-end.ensures.len in
    let end = c.loop-b-test.false in
    record {
      blocks = c.loop-b.invariant.0;
      cycles = λ b lt. let told = c.loop-b.invariant.1 b (omega arith) in (λ t. falls_cycle g order b (told.0 t), λ k. told.1 (cycle_falls g order b k));
    }
