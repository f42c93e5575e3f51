use Rattle.std.proofs.Common.{sym, subst}
use Rattle.ms_paths.specs.Flow.{IsReducible}
use Rattle.ms_kept.specs.Answers.{AreRight}
use Rattle.ms_whole.proofs.whole.Whole.start.Goals as goal

pub build-requires-clause-reducible : goal.build-requires-clause-reducible
build-requires-clause-reducible c =
    subst IsReducible (sym c.in_ok-flow.ensures.graph) ((c.same_paths.ensures.reducible c.args.func.blocks).1 c.requires.sound.reducible)

pub invariant_of-result : goal.invariant_of-result
invariant_of-result c = (
  record {
    formed = record {
      graph = c.in_ok-flow.ensures.graph;
      closed = c.requires.sound.closed;
      reducible = subst IsReducible (sym c.in_ok-flow.ensures.graph) ((c.same_paths.ensures.reducible c.args.func.blocks).1 c.requires.sound.reducible);
      form = c.in_ok-form.ensures.form;
    };
    places = c.in_ok-form.ensures.places;
    waiting = c.in_ok-form.ensures.waiting;
    alias = c.in_ok-alias.ensures;
    sound = c.requires.sound;
    right = subst (AreRight c.args.func) (sym c.new-2.ensures) (c.answers_may_be_kept.ensures.none c.args.func);
  },
  c.in_ok-unread.ensures,
)
