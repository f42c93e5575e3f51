use Rattle.std.proofs.Common.{◌≡◌, ◌+◌, ◌∙◌, refl, arith}
use Rattle.std.specs.Prelude.{None}
use Rattle.ms_form.specs.declared.access.User.TheVariants.{Operand}
use Rattle.ms_form.specs.Form.{entry_of}
use Rattle.ms_build.specs.Changes.{emptied, one_set}
use Rattle.ms_build.specs.Settled.{slot_count}
use Rattle.ms_build.proofs.Rules.{kept, changed_none, changed_both, emptied_below, emptied_none, emptied_next, emptied_all}
use Rattle.ms_build.proofs.settling.empty_operands.Goals as goal

pub loop-slot-init : goal.loop-slot-init
loop-slot-init c =
    let f = c.args.form.now in
    (changed_both kept kept (emptied_below c.args.b 0) f f f (changed_none f) (changed_none f) (λ u. emptied_none c.args.b u (entry_of f u)), refl)

pub unlink-requires : goal.unlink-requires
unlink-requires c =
    let same : slot_count c.loop-slot.form c.args.b.0 ≡ slot_count c.args.form.now c.args.b.0 = c.loop-slot.invariant.0.slots c.args.b.0 in
    let lt = c.loop-slot-test.true in
    let whole = c.slots-slot-end.ensures in
    omega arith

pub loop-slot-preserved : goal.loop-slot-preserved
loop-slot-preserved c =
    let f = c.args.form.now in
    let k = c.loop-slot.slot in (
      changed_both (emptied_below c.args.b k) (one_set (Operand c.args.b k) None) (emptied_below c.args.b (k + 1)) f c.loop-slot.form c.unlink.new.form
          c.loop-slot.invariant.0 c.unlink.ensures.changed (λ u. emptied_next c.args.b k u (entry_of f u)),
      c.unlink.ensures.waiting ∙ c.loop-slot.invariant.1,
    )

pub returns-clause-changed : goal.returns-clause-changed
returns-clause-changed c =
    let f = c.args.form.now in
    let k = c.loop-slot.slot in
    let end = c.loop-slot-test.false in
    let whole = c.slots-slot-end.ensures in
    changed_both (emptied_below c.args.b k) kept (emptied c.args.b) f c.loop-slot.form c.loop-slot.form
    c.loop-slot.invariant.0 (changed_none c.loop-slot.form) (λ u. emptied_all f c.args.b k u (omega arith))
