use Rattle.std.proofs.Common.{◌≡◌, ◌<◌, ◌↔◌, ℕ, true, false, length, get_or}
use Rattle.ms_alias.specs.Roots.{IsRing}
use Rattle.ms_alias.proofs.Rings.{local}
use Rattle.ms_alias.proofs.origins.find_rings.Given as goal

abbrev pub invariant-loop-l : goal.invariant-loop-l
invariant-loop-l l = (length l.rings ≡ length l.fn.marks) × (length l.marks ≡ length l.fn.marks) × ((k : ℕ) → k < l.l → (get_or l.rings k false ≡ true) ↔ IsRing l.func (local k))
