use Rattle.std.proofs.Common.{◌≡◌, ◌<◌, ℕ, length, vec_len}
use Rattle.ms_alias.specs.Roots.{HasRoot}
use Rattle.ms_alias.specs.Tables.{origin_at}
use Rattle.ms_alias.proofs.Rings.{local}
use Rattle.ms_alias.proofs.origins.find_origins.Given as goal

abbrev pub invariant-loop-l : goal.invariant-loop-l
invariant-loop-l l = (vec_len l.origins ≡ l.l) × (length l.marks ≡ length l.fn.marks) × ((k : ℕ) → k < l.l → HasRoot l.func (local k) (origin_at l.origins.items k).root (origin_at l.origins.items k).offset)
