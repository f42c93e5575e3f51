use Rattle.std.proofs.Common.{◌≡◌, take, vec_len}
use Rattle.ms_flow.specs.Table.{edges, edges_of}
use Rattle.ms_flow.proofs.table.Table.of.Given as goal

-- the table of the first blocks
abbrev pub invariant-loop-b : goal.invariant-loop-b
invariant-loop-b l = (edges l.targets.items ≡ edges_of (take l.b l.func.blocks)) × (vec_len l.targets ≡ l.b)
