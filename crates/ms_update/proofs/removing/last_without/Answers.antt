use Rattle.std.proofs.Common.{◌<◌, ◌∙◌, ap, sym, subst, arith, length, List, Some, None}
use Rattle.std.proofs.lemmas.List.{take_all}
use Rattle.ms_ir.specs.Func.{Placed, insts_at}
use Rattle.ms_build.specs.Filled.{last_from}
use Rattle.ms_ir.proofs.Along.{IsCursor, IsHere, here, not_past}
use Rattle.ms_update.specs.Edits.{but_inst, step_but}
use Rattle.ms_update.proofs.Put.{but_at}
use Rattle.ms_update.proofs.Taken.{next_but}
use Rattle.ms_update.proofs.removing.last_without.Goals as goal
use Rattle.ms_update.proofs.removing.last_without.Goals.{in-Some, in_default}

pub loop-place-preserved : goal.loop-place-preserved
loop-place-preserved c =
    let blocks = c.args.func.now.blocks in
    let b = c.args.b.0 in
    let k = c.loop-place.place in
    elim c.match-at.branch [
      | in-Some w ↦
          let cursor : IsCursor blocks b k (Some w.in-Some.j) = subst (IsCursor blocks b k) w.in-Some.is c.loop-place.invariant.2 in
          let h : IsHere blocks b k w.in-Some.j = here blocks b k w.in-Some.j c.requires cursor in (
            w.last-is ∙ w.last_other-last.ensures.last b k h.x h.at ∙ ap (λ l. step_but c.args.i.0 l h.x) c.loop-place.invariant.0 ∙ sym (next_but c.args.i.0 None (insts_at blocks b) k h.x h.at.found),
            rw w.last-is (w.last_other-last.ensures.below b k h.x h.at),
            rw w.at-is (w.next_inst-at.ensures.there b k h.x h.at),
          )
      | in_default w ↦
          let lt : k < length (insts_at blocks b) = (let t = c.loop-place-test.true in let n = c.count-place-end.ensures in omega arith) in
          absurd (not_past blocks b k lt (subst (IsCursor blocks b k) w.in_default.is c.loop-place.invariant.2))
    ]

pub returns-clause-last : goal.returns-clause-last
returns-clause-last c =
    let blocks = c.args.func.now.blocks in
    let b = c.args.b.0 in
    let end = c.loop-place-test.false in
    let count = c.count-place-end.ensures in
    c.loop-place.invariant.0 ∙ ap (λ (xs : List Placed). last_from None (but_inst c.args.i.0 xs)) (take_all c.loop-place.place (insts_at blocks b) (omega arith)) ∙ ap (last_from None) (sym (but_at c.args.i.0 blocks b))
