use Rattle.std.proofs.Common.{◌≡◌, ◌<◌, ℕ, length, get_or}
use Rattle.ms_flow.proofs.sources.numbers.Given as goal

abbrev pub invariant-loop-k : goal.invariant-loop-k
invariant-loop-k l = (length l.list.items ≡ l.k) × ((j : ℕ) → j < l.k → get_or l.list.items j 0 ≡ j)
