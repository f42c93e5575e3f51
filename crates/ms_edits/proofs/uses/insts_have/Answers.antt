use Rattle.std.proofs.Common.{refl, arith}
use Rattle.std.proofs.lemmas.Bool.{iff_false, false≢true}
use Rattle.ms_edits.specs.Told.{NumberHasOperand}
use Rattle.ms_edits.proofs.ListLemmas.{none_more}
use Rattle.ms_edits.proofs.UseLemmas.{has_numbered, numbered_has}
use Rattle.ms_edits.proofs.uses.insts_have.Goals as goal

pub loop-i-init : goal.loop-i-init
loop-i-init c = λ j lt h. omega arith

pub loop-i-preserved : goal.loop-i-preserved
loop-i-preserved c = none_more (λ n. NumberHasOperand c.args.func.now.blocks n c.args.l) c.loop-i.i c.loop-i.invariant (iff_false c.number_has.ensures c.if-number_has.false)

pub returns-then-number_has : goal.returns-then-number_has
returns-then-number_has c = (
  λ t. has_numbered c.args.func.now.blocks c.loop-i.i c.args.l (c.number_has.ensures.0 c.if-number_has.true),
  λ h. refl,
)

pub returns : goal.returns
returns c = (
  λ t. absurd (false≢true t),
  λ h. absurd (
      let r = numbered_has c.args.func.now c.args.l c.numbered.ensures h in
      let below = r.1 in
      let end = c.loop-i-test.false in
      let made = c.made-i-end.ensures in
      c.loop-i.invariant r.0 (omega arith) r.2),
)
