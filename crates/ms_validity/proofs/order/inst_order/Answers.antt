use Rattle.std.proofs.Common.{◌∙◌, arith}
use Rattle.std.proofs.lemmas.Bool.{iff_false, false≢true}
use Rattle.ms_ir.specs.Sound.{IsUsedBefore}
use Rattle.ms_ir.specs.Uses.{uses_at}
use Rattle.ms_validity.proofs.ListLemmas.{AtPlace, none_more, none_in}
use Rattle.ms_validity.proofs.OrderLemmas.{as_many_uses}
use Rattle.ms_validity.proofs.order.inst_order.Goals as goal

pub loop-k-preserved : goal.loop-k-preserved
loop-k-preserved c = (
  c.is_before_at.ensures.same ∙ c.loop-k.invariant.0,
  none_more (AtPlace (uses_at c.args.func.now.blocks c.args.at.block c.args.at.place c.args.inst.now) (IsUsedBefore c.args.func.now)) c.loop-k.k c.loop-k.invariant.1
      (iff_false c.is_before_at.ensures.told c.if-is_before_at.false),
)

pub returns-clause-told : goal.returns-clause-told
returns-clause-told c =
    let uses = uses_at c.args.func.now.blocks c.args.at.block c.args.at.place c.args.inst.now in
    let many = as_many_uses c.args.func.now.blocks c.args.at.block c.args.at.place c.args.inst.now in
    let count = c.operand_count-k-end.ensures in
    let end = c.loop-k-test.false in
    let le = c.loop-k.auto.k-end in (
      λ t. absurd (false≢true t),
      λ h. absurd (none_in uses (IsUsedBefore c.args.func.now) c.loop-k.k (omega arith) c.loop-k.invariant.1 h),
    )
