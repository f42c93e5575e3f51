use Rattle.std.proofs.Common.{◌≡◌, ◌<◌, ◌↔◌, ℕ, true, false, length, get_or}
use Rattle.ms_paths.specs.Flow.{IsOnEveryPath}
use Rattle.ms_flow.proofs.search.behind.Given as goal

-- the first blocks are told
abbrev pub invariant-loop-b : goal.invariant-loop-b
invariant-loop-b l = (length l.passes.items ≡ length l.table) × ((x : ℕ) → x < l.b → (get_or l.passes.items x false ≡ true) ↔ IsOnEveryPath l.table l.h x)
