use Rattle.std.proofs.Common.{◌≡◌, ◌<◌, ℕ}
use Rattle.ms_alias.specs.Tables.{caught_at, set_of}
use Rattle.ms_alias.proofs.Rings.{local}
use Rattle.ms_alias.proofs.captures.mark_others.Given as goal

abbrev pub invariant-loop-l : goal.invariant-loop-l
invariant-loop-l l = (k : ℕ) → k < l.l → caught_at l.old (set_of l.bases (local k)) ≡ caught_at l.new (set_of l.bases (local k))
