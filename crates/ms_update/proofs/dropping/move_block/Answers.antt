use Rattle.std.proofs.Common.{◌≡◌, ◌+◌, ◌∙◌, arith}
use Rattle.ms_form.specs.declared.access.User.TheVariants.{Operand}
use Rattle.ms_form.specs.Form.{entry_of}
use Rattle.ms_flow.specs.Cut.{place_before}
use Rattle.ms_build.specs.Changes.{one_set}
use Rattle.ms_build.specs.Settled.{slot_count}
use Rattle.ms_build.proofs.Rules.{kept, changed_none, changed_both}
use Rattle.ms_update.specs.Dropped.{one_moved}
use Rattle.ms_update.proofs.Moved.{moved_below, moved_begun, moved_next, moved_whole, over_still}
use Rattle.ms_update.proofs.dropping.move_block.Goals as goal

pub loop-slot-init : goal.loop-slot-init
loop-slot-init c =
    let f = c.args.form.now in
    let g = c.args.flow.now.graph in
    let before = place_before c.args.flow.now.before in
    changed_both kept kept (moved_below g before f c.args.b.0 0) f f f (changed_none f) (changed_none f) (λ u. moved_begun g before f c.args.b.0 u (entry_of f u))

pub set_entry-requires-clause-user : goal.set_entry-requires-clause-user
set_entry-requires-clause-user c =
    let same : slot_count c.loop-slot.form c.args.b.0 ≡ slot_count c.args.form.now c.args.b.0 = c.loop-slot.invariant.slots c.args.b.0 in
    let lt = c.loop-slot-test.true in
    let whole = c.slots-slot-end.ensures in
    omega arith

pub loop-slot-preserved : goal.loop-slot-preserved
loop-slot-preserved c =
    let f = c.args.form.now in
    let g = c.args.flow.now.graph in
    let before = place_before c.args.flow.now.before in
    let h = c.loop-slot.form in
    let b = c.args.b in
    let k = c.loop-slot.slot in
    let operand = c.operand_now-operand.result in
    changed_both (moved_below g before f b.0 k) (one_set (Operand b k) operand) (moved_below g before f b.0 (k + 1)) f h c.set_entry.new.form c.loop-slot.invariant c.set_entry.ensures
    (λ u. moved_next g before f b k operand u (entry_of f u) (c.operand_now-operand.ensures.is ∙ over_still g before f h b k (c.requires.behind k) c.loop-slot.invariant))

pub returns : goal.returns
returns c =
    let f = c.args.form.now in
    let g = c.args.flow.now.graph in
    let before = place_before c.args.flow.now.before in
    let h = c.loop-slot.form in
    let k = c.loop-slot.slot in
    let end = c.loop-slot-test.false in
    let whole = c.slots-slot-end.ensures in
    changed_both (moved_below g before f c.args.b.0 k) kept (one_moved g before f c.args.b.0) f h h c.loop-slot.invariant (changed_none h) (λ u. moved_whole g before f c.args.b.0 k u (omega arith) c.requires.slots)
