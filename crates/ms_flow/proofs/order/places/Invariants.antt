use Rattle.std.proofs.Common.{◌≡◌, ◌-◌, ◌<◌, ℕ, length, get_or, reverse, take}
use Rattle.std.specs.Prelude.{None}
use Rattle.ms_flow.specs.Flow.{place_in}
use Rattle.ms_flow.proofs.Orders.{later}
use Rattle.ms_flow.proofs.order.places.Given as goal

-- the places among the first that were left, later by those that are to come
abbrev pub invariant-loop-k : goal.invariant-loop-k
invariant-loop-k l = (length l.order.items ≡ length l.initial.order.items) × ((b : ℕ) → b < length l.initial.order.items → get_or l.order.items b None ≡ later (l.count - l.k) (place_in (reverse (take l.k l.left)) b))
