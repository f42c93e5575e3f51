use Rattle.std.proofs.Common.{◌≡◌, ◌<◌, ℕ, length, get_or, vec_len}
use Rattle.ms_alias.specs.declared.sets.Set.TheVariants.{Nothing}
use Rattle.ms_alias.specs.Tables.{no_row}
use Rattle.ms_alias.specs.Building.{row_len}
use Rattle.ms_alias.proofs.room.make_rows.Given as goal

abbrev pub invariant-loop-k : goal.invariant-loop-k
invariant-loop-k l = (vec_len l.rows ≡ l.k) × ((k : ℕ) → k < l.k → length (get_or l.rows.items k no_row).bits ≡ row_len l.columns (get_or l.sets k Nothing))
