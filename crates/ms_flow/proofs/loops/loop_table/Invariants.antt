use Rattle.std.proofs.Common.{◌≡◌, ◌<◌, ◌↔◌, ℕ, true, false, length, get_or}
use Rattle.ms_flow.proofs.Rises.{FallsBack}
use Rattle.ms_flow.proofs.loops.loop_table.Given as goal

-- the first blocks are told
abbrev pub invariant-loop-b : goal.invariant-loop-b
invariant-loop-b l = (length l.cyclic.items ≡ length l.table) × ((x : ℕ) → x < l.b → (get_or l.cyclic.items x false ≡ true) ↔ FallsBack l.table x)
