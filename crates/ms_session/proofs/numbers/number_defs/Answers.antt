use Rattle.std.proofs.Common.{◌+◌, ◌++◌, ◌∙◌, List, drop, ap, sym, subst}
use Rattle.ms_ir.specs.Func.{Placed, insts_at}
use Rattle.ms_session.specs.Annotated.{def_events}
use Rattle.ms_session.specs.Shown.{NumbersState}
use Rattle.ms_ir.proofs.Along.{IsCursor, IsHere, here, there}
use Rattle.ms_session.proofs.NumberLemmas.{defs_more}
use Rattle.ms_session.proofs.numbers.number_defs.Goals as goal

pub loop-place-preserved : goal.loop-place-preserved
loop-place-preserved c =
    let blocks = c.args.func.now.blocks in
    let b = c.args.b.0 in
    let k = c.loop-place.place in
    let insts : List Placed = insts_at blocks b in
    let old = c.loop-place.numbers.all in
    let h : IsHere blocks b k c.in-Some.i = here blocks b k c.in-Some.i c.requires.block (subst (IsCursor blocks b k) c.in-Some.is c.loop-place.invariant.cursor) in
    let new = c.in_ok-number_inst.ensures b k h.x h.at in
    record {
      all = ap (λ (s : NumbersState). s.all ++ def_events (drop (k + 1) insts)) new
          ∙ defs_more old h.x (drop (k + 1) insts)
          ∙ ap (λ (r : List Placed). old ++ def_events r) (sym (there insts k h.x h.at.found))
          ∙ c.loop-place.invariant.all;
      blocks = ap (λ (s : NumbersState). s.blocks) new ∙ c.loop-place.invariant.blocks;
      insts = ap (λ (s : NumbersState). s.insts) new ∙ c.loop-place.invariant.insts;
      cursor = c.next_inst-at.ensures.there b k h.x h.at;
    }
