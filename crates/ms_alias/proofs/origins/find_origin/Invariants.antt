use Rattle.std.proofs.Common.{◌≡◌, length}
use Rattle.ms_flow.specs.Walk.{unseen}
use Rattle.ms_alias.proofs.Sums.{IsOnWay}
use Rattle.ms_alias.proofs.origins.find_origin.Given as goal

abbrev pub invariant-walk : goal.invariant-walk
invariant-walk l = IsOnWay l.func l.fn.l l.at l.sum l.marks × (length l.marks ≡ length l.rings)

abbrev pub decreases-walk : goal.decreases-walk
decreases-walk l = unseen l.marks
