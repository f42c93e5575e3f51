use Rattle.std.proofs.Common.{◌≡◌, ◌<◌, ◌*◌, ℕ, [], length, get_or}
use Rattle.ms_flow.specs.Kept.{AreNumbered}
use Rattle.ms_flow.proofs.sources.number_lists.Given as goal

abbrev pub invariant-loop-b : goal.invariant-loop-b
invariant-loop-b l = (length l.in_slots.items ≡ 2 * length l.lists) × ((b : ℕ) → b < l.b → AreNumbered (get_or l.lists b []) (length (get_or l.lists b [])) l.in_slots.items)
