-- What is known of a function for looking at its lines.
use Rattle.std.specs.Prelude.{◌≡◌, List}
use Rattle.ms_ir.specs.Func.{Block}
use Rattle.ms_flow.specs.Table.{edges_of}
use Rattle.ms_validity.specs.Tables.{AreSpots, AreSources}
use Rattle.ms_validity.specs.declared.view.View.{View}

pub record IsView (blocks : List Block) (v : View) : Type 0 where
  pub flow : v.flow.graph ≡ edges_of blocks
  pub spots : AreSpots blocks v.spots.items
  pub sources : AreSources blocks v.sources.items
