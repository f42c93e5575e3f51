use Rattle.std.proofs.Common.{◌≡◌, ◌<◌, ◌↔◌, ℕ, true, false, length, get_or}
use Rattle.ms_flow.specs.Flow.{IsOnCycle}
use Rattle.ms_flow.proofs.search.cycles.Given as goal

-- the first blocks are told
abbrev pub invariant-loop-b : goal.invariant-loop-b
invariant-loop-b l = (length l.cyclic.items ≡ length l.table) × ((x : ℕ) → x < l.b → (get_or l.cyclic.items x false ≡ true) ↔ IsOnCycle l.table x) × (length l.walker.seen ≡ length l.table)
