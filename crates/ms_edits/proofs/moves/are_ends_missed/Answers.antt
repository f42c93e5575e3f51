use Rattle.std.proofs.Common.{refl, arith}
use Rattle.std.proofs.lemmas.Bool.{iff_false, false≢true}
use Rattle.ms_edits.specs.declared.spots.After.TheVariants.{Moved}
use Rattle.ms_edits.specs.Moved.{EndMisses, func_after}
use Rattle.ms_edits.proofs.ListLemmas.{none_more}
use Rattle.ms_edits.proofs.MissedLemmas.{end_below}
use Rattle.ms_edits.proofs.moves.are_ends_missed.Goals as goal

pub loop-c-init : goal.loop-c-init
loop-c-init c = λ j lt h. omega arith

pub loop-c-preserved : goal.loop-c-preserved
loop-c-preserved c =
    none_more (EndMisses (func_after c.args.func.now (Moved c.args.from c.args.to)).blocks c.args.to c.args.l) c.loop-c.c c.loop-c.invariant
    (iff_false c.is_term_missed.ensures c.if-is_term_missed.false)

pub returns-then-is_term_missed : goal.returns-then-is_term_missed
returns-then-is_term_missed c = (
  λ t. (c.loop-c.c, c.is_term_missed.ensures.0 c.if-is_term_missed.true),
  λ h. refl,
)

pub returns : goal.returns
returns c = (
  λ t. absurd (false≢true t),
  λ h. absurd (
      let below = end_below c.args.func.now c.numbered.ensures c.args.from c.args.to c.requires.moves c.args.l h.0 h.1 in
      let end = c.loop-c-test.false in
      let count = c.block_count-c-end.ensures.count in
      c.loop-c.invariant h.0 (omega arith) h.1),
)
