-- A function with its flow graph and its memory form.
use Rattle.std.specs.Prelude.{◌≡◌, ℕ, []}
use Rattle.ms_paths.specs.Flow.{IsClosed, IsReducible}
use Rattle.ms_ir.specs.Func.{FuncState}
use Rattle.ms_ir.specs.Graph.{graph_of}
use Rattle.ms_flow.specs.Flow.{FlowState}
use Rattle.ms_flow.specs.Table.{edges_of}
use Rattle.ms_form.specs.Form.{FormState, HasPlaces}
use Rattle.ms_form.specs.Counts.{pred_counts}
use Rattle.ms_build.specs.Built.{IsFormOf}

-- The graph is the function's and reducible, and the form is the function's, with its places and no block that waits.
pub record IsTogether (func : FuncState) (flow : FlowState) (table : FormState) : Type 0 where
  pub graph : flow.graph ≡ edges_of func.blocks
  pub closed : IsClosed (graph_of func.blocks)
  pub reducible : IsReducible flow.graph
  pub form : IsFormOf func table
  pub places : HasPlaces (pred_counts flow) func.made table
  pub waiting : table.waiting ≡ []
