use Rattle.std.proofs.Common.{refl}
use Rattle.std.specs.Prelude.{IsTrue, ◌↔◌}
use Rattle.std.proofs.lemmas.Bool.{iff_false}
use Rattle.std.proofs.lemmas.Result.{IfOk-weaker}
use Rattle.ms_edits.specs.declared.spots.After.TheVariants.{Moved}
use Rattle.ms_edits.specs.Moved.{IsBadAfter, IsGivenMissed, func_after}
use Rattle.ms_edits.proofs.MissedLemmas.{gone_not, late_is_bad, rest_is_bad}
use Rattle.ms_edits.proofs.moves.bad_in_move.Goals as goal

pub returns-then-branch : goal.returns-then-branch
returns-then-branch c = (
  λ t. late_is_bad c.args.func.now c.numbered.ensures c.args.from c.args.to c.requires.moves c.requires.sound c.requires.plain c.in-Some.node.now c.in-Some.ensures
      (c.in_ok-has_late-in-Some.ensures.0 c.if-branch.true),
  λ h. refl,
)

pub returns-else-branch : goal.returns-else-branch
returns-else-branch c =
    let now = func_after c.args.func.now (Moved c.args.from c.args.to) in
    IfOk-weaker c.is_result_missed.result (λ t. IsTrue t ↔ IsGivenMissed now.blocks c.args.to c.in-Some.node.now.result) (λ t. IsTrue t ↔ IsBadAfter now)
    (λ t told. rest_is_bad c.args.func.now c.numbered.ensures c.args.from c.args.to c.requires.moves c.requires.sound c.requires.plain c.in-Some.node.now t c.in-Some.ensures
    (iff_false c.in_ok-has_late-in-Some.ensures c.if-branch.false) told)
    c.is_result_missed.ensures

pub returns-in-None : goal.returns-in-None
returns-in-None c = absurd (gone_not c.args.func.now c.args.from c.args.to c.requires.moves c.in-None.ensures)
