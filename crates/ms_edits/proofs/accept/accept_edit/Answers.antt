use Rattle.std.proofs.Common.{inr}
use Rattle.std.proofs.lemmas.Bool.{iff_false}
use Rattle.ms_edits.proofs.AcceptLemmas.{faultless, none_less, to_edge, to_kind, to_order, to_place, to_types, to_used}
use Rattle.ms_edits.proofs.accept.accept_edit.Goals as goal

pub returns-then-bad_name-clause-err : goal.returns-then-bad_name-clause-err
returns-then-bad_name-clause-err c = inr (c.bad_name.ensures.0 c.if-bad_name.true, none_less c.args.func.now c.args.edit.now)

pub returns-then-bad_place-clause-err : goal.returns-then-bad_place-clause-err
returns-then-bad_place-clause-err c =
    inr (c.bad_place.ensures.0 c.if-bad_place.true, to_place c.args.func.now c.args.edit.now (iff_false c.bad_name.ensures c.if-bad_name.false))

pub returns-then-branch-clause-err : goal.returns-then-branch-clause-err
returns-then-branch-clause-err c =
    inr (
      c.in_ok-bad_kind.ensures.0 c.if-branch.true,
      to_kind c.args.func.now c.args.edit.now (iff_false c.bad_name.ensures c.if-bad_name.false) (iff_false c.bad_place.ensures c.if-bad_place.false),
    )

pub returns-then-bad_types-clause-err : goal.returns-then-bad_types-clause-err
returns-then-bad_types-clause-err c =
    inr (
      c.bad_types.ensures.0 c.if-bad_types.true,
      to_types c.args.func.now c.args.edit.now (iff_false c.bad_name.ensures c.if-bad_name.false) (iff_false c.bad_place.ensures c.if-bad_place.false)
          (iff_false c.in_ok-bad_kind.ensures c.if-branch.false),
    )

pub returns-then-branch-2-clause-err : goal.returns-then-branch-2-clause-err
returns-then-branch-2-clause-err c =
    inr (
      c.in_ok-bad_order.ensures.0 c.if-branch-2.true,
      to_order c.args.func.now c.args.edit.now (iff_false c.bad_name.ensures c.if-bad_name.false) (iff_false c.bad_place.ensures c.if-bad_place.false)
          (iff_false c.in_ok-bad_kind.ensures c.if-branch.false) (iff_false c.bad_types.ensures c.if-bad_types.false),
    )

pub returns-then-branch-3-clause-err : goal.returns-then-branch-3-clause-err
returns-then-branch-3-clause-err c =
    inr (
      c.in_ok-is_still_used.ensures.0 c.if-branch-3.true,
      to_used c.args.func.now c.args.edit.now
          (to_order c.args.func.now c.args.edit.now (iff_false c.bad_name.ensures c.if-bad_name.false) (iff_false c.bad_place.ensures c.if-bad_place.false)
          (iff_false c.in_ok-bad_kind.ensures c.if-branch.false) (iff_false c.bad_types.ensures c.if-bad_types.false))
          (iff_false c.in_ok-bad_order.ensures c.if-branch-2.false),
    )

pub returns-then-branch-4-clause-err : goal.returns-then-branch-4-clause-err
returns-then-branch-4-clause-err c =
    inr (
      c.in_ok-no_edge.ensures.0 c.if-branch-4.true,
      to_edge c.args.func.now c.args.edit.now
          (to_order c.args.func.now c.args.edit.now (iff_false c.bad_name.ensures c.if-bad_name.false) (iff_false c.bad_place.ensures c.if-bad_place.false)
          (iff_false c.in_ok-bad_kind.ensures c.if-branch.false) (iff_false c.bad_types.ensures c.if-bad_types.false))
          (iff_false c.in_ok-bad_order.ensures c.if-branch-2.false) (iff_false c.in_ok-is_still_used.ensures c.if-branch-3.false),
    )

pub returns-clause-ok : goal.returns-clause-ok
returns-clause-ok c =
    faultless c.args.func.now c.args.edit.now
    (to_order c.args.func.now c.args.edit.now (iff_false c.bad_name.ensures c.if-bad_name.false) (iff_false c.bad_place.ensures c.if-bad_place.false)
    (iff_false c.in_ok-bad_kind.ensures c.if-branch.false) (iff_false c.bad_types.ensures c.if-bad_types.false))
    (iff_false c.in_ok-bad_order.ensures c.if-branch-2.false) (iff_false c.in_ok-is_still_used.ensures c.if-branch-3.false) (iff_false c.in_ok-no_edge.ensures c.if-branch-4.false)
