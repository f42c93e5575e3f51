use Rattle.std.proofs.Common.{◌<◌, subst, arith, length}
use Rattle.ms_ir.specs.Func.{insts_at}
use Rattle.ms_ir.proofs.Along.{IsCursor, IsHere, here, not_past}
use Rattle.ms_update.proofs.Cleared.{cleared_begun, cleared_next, cleared_block}
use Rattle.ms_update.proofs.dropping.forget.Goals as goal
use Rattle.ms_update.proofs.dropping.forget.Goals.{in-Some, in_default}

pub loop-place-init : goal.loop-place-init
loop-place-init c = (cleared_begun c.args.func.now.blocks c.args.b.0 c.args.form.now, c.first_inst-at.ensures)

pub unlink-requires : goal.unlink-requires
unlink-requires c =
    let blocks = c.args.func.now.blocks in
    let b = c.args.b.0 in
    let k = c.loop-place.place in
    let h : IsHere blocks b k c.in-Some.i = here blocks b k c.in-Some.i c.requires.block (subst (IsCursor blocks b k) c.in-Some.is c.loop-place.invariant.1) in
    let below = c.numbered.ensures.below_made b k h.x h.at.found in
    let number = h.at.numbered in
    let same = c.loop-place.invariant.0.numbers in
    let all = c.requires.numbers in
    omega arith

pub loop-place-preserved : goal.loop-place-preserved
loop-place-preserved c =
    let blocks = c.args.func.now.blocks in
    let b = c.args.b.0 in
    let k = c.loop-place.place in
    elim c.match-at.branch [
      | in-Some w ↦
          let h : IsHere blocks b k w.in-Some.i = here blocks b k w.in-Some.i c.requires.block (subst (IsCursor blocks b k) w.in-Some.is c.loop-place.invariant.1) in (
            rw w.form-is (cleared_next blocks w.in-Some.i b k h.x c.args.form.now c.loop-place.form w.unlink.new.form h.at c.loop-place.invariant.0 w.unlink.ensures.changed),
            rw w.at-is (w.next_inst-at.ensures.there b k h.x h.at),
          )
      | in_default w ↦
          let lt : k < length (insts_at blocks b) = (let t = c.loop-place-test.true in let n = c.count-place-end.ensures in omega arith) in
          absurd (not_past blocks b k lt (subst (IsCursor blocks b k) w.in_default.is c.loop-place.invariant.1))
    ]

pub returns : goal.returns
returns c =
    let end = c.loop-place-test.false in
    let count = c.count-place-end.ensures in
    cleared_block c.args.func.now.blocks c.args.b.0 c.loop-place.place c.args.form.now c.loop-place.form (omega arith) c.loop-place.invariant.0
