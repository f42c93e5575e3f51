use Rattle.std.proofs.Common.{◌≤◌, vec_len}
use Rattle.ms_alias.specs.Building.{AreKinds}
use Rattle.ms_alias.proofs.room.find_sets.Given as goal

abbrev pub invariant-loop-l : goal.invariant-loop-l
invariant-loop-l l = AreKinds l.func l.l l.columns.items l.sets.items × (vec_len l.columns ≤ l.l)
