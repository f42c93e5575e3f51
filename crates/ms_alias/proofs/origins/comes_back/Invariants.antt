use Rattle.std.proofs.Common.{◌≡◌, ◌<◌, length}
use Rattle.ms_flow.specs.Walk.{unseen}
use Rattle.ms_alias.proofs.Rings.{IsTrail}
use Rattle.ms_alias.proofs.origins.comes_back.Given as goal

abbrev pub invariant-walk : goal.invariant-walk
invariant-walk l = IsTrail l.func l.limit l.l l.at l.marks × (length l.marks ≡ l.limit) × (l.at < l.limit)

abbrev pub decreases-walk : goal.decreases-walk
decreases-walk l = unseen l.marks
