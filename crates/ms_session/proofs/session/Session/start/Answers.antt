use Rattle.std.proofs.Common.{sym, subst}
use Rattle.ms_paths.specs.Flow.{IsClosed, IsReducible}
use Rattle.ms_session.proofs.session.Session.start.Goals as goal

pub build-requires-clause-reducible : goal.build-requires-clause-reducible
build-requires-clause-reducible c =
    subst IsReducible (sym c.in_ok-flow.ensures.graph) ((c.same_paths.ensures.reducible c.args.func.blocks).1 c.requires.sound.reducible)

pub invariant_of-result : goal.invariant_of-result
invariant_of-result c = (
  c.in_ok-flow.ensures.graph,
  subst IsClosed (sym c.in_ok-flow.ensures.graph) (c.same_paths.ensures.closed c.args.func.blocks c.requires.sound.closed),
  subst IsReducible (sym c.in_ok-flow.ensures.graph) ((c.same_paths.ensures.reducible c.args.func.blocks).1 c.requires.sound.reducible),
  c.in_ok-form.ensures.form,
  c.requires.sound.closed,
  c.in_ok-alias.ensures,
  c.requires.sound,
)
