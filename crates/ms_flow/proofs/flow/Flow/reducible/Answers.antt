use Rattle.std.proofs.Common.{subst}
use Rattle.std.specs.Prelude.{IsTrue, ◌↔◌}
use Rattle.ms_paths.specs.Flow.{IsReducible}
use Rattle.ms_flow.specs.Flow.{FlowState}
use Rattle.ms_flow.proofs.flow.Flow.reducible.Goals as goal

pub returns : goal.returns
returns c =
    let P : FlowState → Type 0 = λ s. IsTrue c.self.inside.reducible ↔ IsReducible s.graph in
    subst P c.self.view_is c.self.invariant.told
