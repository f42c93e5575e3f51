use Rattle.std.proofs.Common.{◌+◌, refl, arith}
use Rattle.std.proofs.lemmas.Bool.{iff_false, false≢true}
use Rattle.ms_ir.specs.Uses.{operands_of}
use Rattle.ms_edits.specs.Told.{AtPlace, IsLateAt}
use Rattle.ms_edits.specs.Moved.{func_after}
use Rattle.ms_edits.proofs.ListLemmas.{none_more, none_in, in_at}
use Rattle.ms_edits.proofs.order.has_late.Goals as goal

pub returns-then-branch : goal.returns-then-branch
returns-then-branch c = (
  λ t. in_at (operands_of c.args.inst.now) (IsLateAt (func_after c.args.func.now c.args.after) c.args.at.block c.args.at.place) 0 (c.in_ok-is_late_at.ensures.0 c.if-branch.true),
  λ h. refl,
)

pub loop-k-init : goal.loop-k-init
loop-k-init c =
    none_more (AtPlace (operands_of c.args.inst.now) (IsLateAt (func_after c.args.func.now c.args.after) c.args.at.block c.args.at.place)) 0 (λ j lt h. omega (arith, lt))
    (iff_false c.in_ok-is_late_at.ensures c.if-branch.false)

pub loop-k-preserved : goal.loop-k-preserved
loop-k-preserved c =
    none_more (AtPlace (operands_of c.args.inst.now) (IsLateAt (func_after c.args.func.now c.args.after) c.args.at.block c.args.at.place)) (c.loop-k.k + 1) c.loop-k.invariant
    (iff_false c.in_ok-is_late_at-2.ensures c.if-branch-2.false)

pub returns-then-branch-2 : goal.returns-then-branch-2
returns-then-branch-2 c = (
  λ t. in_at (operands_of c.args.inst.now) (IsLateAt (func_after c.args.func.now c.args.after) c.args.at.block c.args.at.place) (c.loop-k.k + 1) (c.in_ok-is_late_at-2.ensures.0 c.if-branch-2.true),
  λ h. refl,
)

pub returns : goal.returns
returns c = (
  λ t. absurd (false≢true t),
  λ h. absurd (none_in (operands_of c.args.inst.now) (IsLateAt (func_after c.args.func.now c.args.after) c.args.at.block c.args.at.place) (c.loop-k.k + 1)
      (let end = c.loop-k-test.false in let most = c.more_operands-k-end.ensures in omega arith) c.loop-k.invariant h),
)
