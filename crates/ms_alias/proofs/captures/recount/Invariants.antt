use Rattle.std.proofs.Common.{◌≡◌, ◌<◌, ◌↔◌, ℕ, true, false, length, get_or}
use Rattle.ms_alias.specs.Building.{IsCountedAs}
use Rattle.ms_alias.proofs.captures.recount.Given as goal

abbrev pub invariant-loop-i : goal.invariant-loop-i
invariant-loop-i l = (length l.marks ≡ length l.bases.columns) × ((c : ℕ) → (get_or l.marks c false ≡ true) ↔ ((i : ℕ) × (i < l.i) × IsCountedAs l.bases l.func l.skip i c))
