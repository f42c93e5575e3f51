use Rattle.std.proofs.Common.{◌≡◌, ℕ, ◌<◌, get_or, false, eqb}
use Rattle.ms_script.proofs.rows.count_row.Given as goal

abbrev pub invariant-loop-i : goal.invariant-loop-i
invariant-loop-i l = (k : ℕ) → k < l.i → eqb (get_or l.bytes k 0) 10 ≡ false
