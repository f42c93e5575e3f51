use Rattle.std.proofs.Common.{refl, arith}
use Rattle.std.proofs.lemmas.Bool.{iff_false, false≢true}
use Rattle.ms_edits.specs.declared.spots.After.TheVariants.{Moved}
use Rattle.ms_edits.specs.Moved.{NumberMisses, func_after}
use Rattle.ms_edits.proofs.ListLemmas.{none_more}
use Rattle.ms_edits.proofs.MissedLemmas.{number_below}
use Rattle.ms_edits.proofs.moves.are_insts_missed.Goals as goal

pub loop-i-init : goal.loop-i-init
loop-i-init c = λ j lt h. omega arith

pub loop-i-preserved : goal.loop-i-preserved
loop-i-preserved c =
    none_more (NumberMisses (func_after c.args.func.now (Moved c.args.from c.args.to)).blocks c.args.to c.args.l) c.loop-i.i c.loop-i.invariant
    (iff_false c.is_number_missed.ensures c.if-is_number_missed.false)

pub returns-then-is_number_missed : goal.returns-then-is_number_missed
returns-then-is_number_missed c = (
  λ t. (c.loop-i.i, c.is_number_missed.ensures.0 c.if-is_number_missed.true),
  λ h. refl,
)

pub returns : goal.returns
returns c = (
  λ t. absurd (false≢true t),
  λ h. absurd (
      let below = number_below c.args.func.now c.numbered.ensures c.args.from c.args.to c.requires.moves c.args.l h.0 h.1 in
      let end = c.loop-i-test.false in
      let made = c.made-i-end.ensures in
      c.loop-i.invariant h.0 (omega arith) h.1),
)
