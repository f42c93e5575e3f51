use Rattle.std.proofs.Common.{◌≡◌, length}
use Rattle.ms_alias.proofs.Filled.{AreFilled}
use Rattle.ms_alias.proofs.rows.fill_rows.Given as goal

abbrev pub invariant-loop-l : goal.invariant-loop-l
invariant-loop-l l = AreFilled l.func l.fn.bases l.l l.bases × (length l.flood.marked ≡ length l.fn.bases.sets) × (length l.flood.row.bits ≡ length l.fn.bases.columns)
