use Rattle.std.proofs.Common.{◌≡◌, ◌≤◌, ◌*◌, take, length}
use Rattle.std.specs.Prelude.{sum_by}
use Rattle.ms_flow.specs.Table.{next_of}
use Rattle.ms_flow.proofs.search.count_left.Given as goal

abbrev pub invariant-loop-k : goal.invariant-loop-k
invariant-loop-k l = (l.count ≡ sum_by (λ b. length (next_of l.table b)) (take l.k l.left)) × (l.count ≤ 2 * l.k)
