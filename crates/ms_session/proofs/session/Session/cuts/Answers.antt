use Rattle.std.proofs.Common.{◌≡◌, ◌∙◌, sym, ap, subst}
use Rattle.ms_paths.specs.Flow.{IsClosed, IsReducible}
use Rattle.ms_flow.specs.Flow.{FlowState}
use Rattle.ms_session.proofs.session.Session.cuts.Goals as goal

pub invariant_of-self : goal.invariant_of-self
invariant_of-self c =
    let kept = c.self.invariant in
    let same = ap (λ (flow : FlowState). flow.graph) c.cuts.ensures.same in (
      same ∙ kept.0,
      subst IsClosed (sym same) kept.1,
      subst IsReducible (sym same) kept.2,
      kept.3,
      kept.4,
      kept.5,
      kept.6,
    )
