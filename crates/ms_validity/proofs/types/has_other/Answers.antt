use Rattle.std.proofs.Common.{refl, arith}
use Rattle.std.proofs.lemmas.Bool.{iff_false, false≢true}
use Rattle.ms_ir.specs.Sound.{HasOtherType}
use Rattle.ms_ir.specs.Uses.{operands_of}
use Rattle.ms_validity.proofs.ListLemmas.{AtPlace, none_more, none_in, in_at}
use Rattle.ms_validity.proofs.types.has_other.Goals as goal

pub loop-k-init : goal.loop-k-init
loop-k-init c = λ j lt h. omega arith

pub loop-k-preserved : goal.loop-k-preserved
loop-k-preserved c =
    none_more (AtPlace (operands_of c.args.inst.now) (HasOtherType c.args.func.now)) c.loop-k.k c.loop-k.invariant (iff_false c.is_other_at.ensures c.if-is_other_at.false)

pub returns-then-is_other_at : goal.returns-then-is_other_at
returns-then-is_other_at c = (
  λ t. in_at (operands_of c.args.inst.now) (HasOtherType c.args.func.now) c.loop-k.k (c.is_other_at.ensures.0 c.if-is_other_at.true),
  λ h. refl,
)

pub returns : goal.returns
returns c = (
  λ t. absurd (false≢true t),
  λ h. absurd (none_in (operands_of c.args.inst.now) (HasOtherType c.args.func.now) c.loop-k.k (let end = c.loop-k-test.false in omega arith) c.loop-k.invariant h),
)
