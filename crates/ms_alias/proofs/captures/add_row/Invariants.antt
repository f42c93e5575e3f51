use Rattle.std.proofs.Common.{◌<◌, ℕ}
use Rattle.ms_alias.specs.declared.sets.Set.TheVariants.{Brought}
use Rattle.ms_alias.specs.Building.{Adds, IsAllocaOf}
use Rattle.ms_alias.proofs.captures.add_row.Given as goal

abbrev pub invariant-loop-column : goal.invariant-loop-column
invariant-loop-column l = Adds (λ (c : ℕ). (c < l.column) × IsAllocaOf l.bases (Brought l.l) c) l.fn.marks l.marks
