use Rattle.std.proofs.Common.{◌<◌, ◌∙◌, ap, sym, subst, arith, length, Some, None}
use Rattle.ms_ir.specs.Func.{insts_at}
use Rattle.ms_build.specs.Filled.{last_step}
use Rattle.ms_ir.proofs.Along.{IsCursor, IsHere, here, not_past}
use Rattle.ms_build.proofs.Insts.{last_next}
use Rattle.ms_build.proofs.lasts.last_def.Goals as goal
use Rattle.ms_build.proofs.lasts.last_def.Goals.{in-Some, in_default}

pub loop-place-preserved : goal.loop-place-preserved
loop-place-preserved c =
    let blocks = c.args.func.now.blocks in
    let b = c.args.b.0 in
    let k = c.loop-place.place in
    elim c.match-at.branch [
      | in-Some w ↦
          let cursor : IsCursor blocks b k (Some w.in-Some.i) = subst (IsCursor blocks b k) w.in-Some.is c.loop-place.invariant.2 in
          let h : IsHere blocks b k w.in-Some.i = here blocks b k w.in-Some.i c.requires cursor in (
            w.last-is ∙ w.last_at-last.ensures.last b k h.x h.at ∙ ap (λ l. last_step l h.x) c.loop-place.invariant.0 ∙ sym (last_next None (insts_at blocks b) k h.x h.at.found),
            rw w.last-is (w.last_at-last.ensures.below b k h.x h.at),
            rw w.at-is (w.next_inst-at.ensures.there b k h.x h.at),
          )
      | in_default w ↦
          let lt : k < length (insts_at blocks b) = (let t = c.loop-place-test.true in let n = c.count-place-end.ensures in omega arith) in
          absurd (not_past blocks b k lt (subst (IsCursor blocks b k) w.in_default.is c.loop-place.invariant.2))
    ]
