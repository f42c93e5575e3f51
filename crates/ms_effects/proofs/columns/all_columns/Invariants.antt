use Rattle.ms_effects.proofs.Columned.{AreColumnsBelow}
use Rattle.ms_effects.proofs.columns.all_columns.Given as goal

abbrev pub invariant-loop-i : goal.invariant-loop-i
invariant-loop-i l = AreColumnsBelow l.func l.root l.i l.columns.items
