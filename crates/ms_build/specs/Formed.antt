-- What belongs together: a function, its flow graph and its memory form.
use Rattle.std.specs.Prelude.{◌≡◌, List}
use Rattle.ms_paths.specs.Flow.{Block as Run, IsClosed, IsReducible}
use Rattle.ms_ir.specs.Func.{FuncState}
use Rattle.ms_ir.specs.Graph.{graph_of}
use Rattle.ms_flow.specs.Table.{edges_of}
use Rattle.ms_form.specs.Form.{FormState}
use Rattle.ms_build.specs.Built.{IsFormOf}

-- the graph and the form are the function's, whose branches lead to its own blocks, and each cycle of reached blocks has a block that every path passes
pub record IsFormed (f : FuncState) (g : List Run) (state : FormState) : Type 0 where
  pub graph : g ≡ edges_of f.blocks
  pub closed : IsClosed (graph_of f.blocks)
  pub reducible : IsReducible g
  pub form : IsFormOf f state
