use Rattle.std.proofs.Common.{arith}
use Rattle.ms_flow.proofs.Tables.{length-edges}
use Rattle.ms_flow.proofs.table.Table.len.Goals as goal

pub returns : goal.returns
returns c = rw (← c.self.view_is) (omega (arith, length-edges c.self.inside.targets.items, c.self.inside.targets.ok.0))
