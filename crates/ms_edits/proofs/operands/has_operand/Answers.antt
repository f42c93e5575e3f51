use Rattle.std.proofs.Common.{◌+◌, refl, arith}
use Rattle.std.proofs.lemmas.Bool.{iff_false, false≢true}
use Rattle.ms_ir.specs.Uses.{operands_of}
use Rattle.ms_edits.specs.Told.{AtPlace, IsAsked}
use Rattle.ms_edits.proofs.ListLemmas.{none_more, none_in, in_at}
use Rattle.ms_edits.proofs.operands.has_operand.Goals as goal

pub returns-then-is_asked_at : goal.returns-then-is_asked_at
returns-then-is_asked_at c = (
  λ t. in_at (operands_of c.args.inst.now) (IsAsked c.args.func.now c.args.ask) 0 (c.is_asked_at.ensures.0 c.if-is_asked_at.true),
  λ h. refl,
)

pub loop-k-init : goal.loop-k-init
loop-k-init c =
    none_more (AtPlace (operands_of c.args.inst.now) (IsAsked c.args.func.now c.args.ask)) 0 (λ j lt h. omega (arith, lt)) (iff_false c.is_asked_at.ensures c.if-is_asked_at.false)

pub loop-k-preserved : goal.loop-k-preserved
loop-k-preserved c =
    none_more (AtPlace (operands_of c.args.inst.now) (IsAsked c.args.func.now c.args.ask)) (c.loop-k.k + 1) c.loop-k.invariant (iff_false c.is_asked_at-in-loop-k.ensures c.if-is_asked_at-2.false)

pub returns-then-is_asked_at-2 : goal.returns-then-is_asked_at-2
returns-then-is_asked_at-2 c = (
  λ t. in_at (operands_of c.args.inst.now) (IsAsked c.args.func.now c.args.ask) (c.loop-k.k + 1) (c.is_asked_at-in-loop-k.ensures.0 c.if-is_asked_at-2.true),
  λ h. refl,
)

pub returns : goal.returns
returns c = (
  λ t. absurd (false≢true t),
  λ h. absurd (none_in (operands_of c.args.inst.now) (IsAsked c.args.func.now c.args.ask) (c.loop-k.k + 1)
      (let end = c.loop-k-test.false in let most = c.more_operands-k-end.ensures in omega arith) c.loop-k.invariant h),
)
