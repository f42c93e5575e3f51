use Rattle.std.proofs.Common.{◌≡◌, ◌<◌, ◌↔◌, ℕ, true, false, length, get_or}
use Rattle.ms_alias.specs.Roots.{IsTurning}
use Rattle.ms_alias.proofs.Rings.{local}
use Rattle.ms_alias.proofs.turning.find_turning.Given as goal

abbrev pub invariant-loop-l : goal.invariant-loop-l
invariant-loop-l l = (length l.turning ≡ length l.fn.turning) × ((k : ℕ) → k < l.l → (get_or l.turning k false ≡ true) ↔ IsTurning l.func (local k))
