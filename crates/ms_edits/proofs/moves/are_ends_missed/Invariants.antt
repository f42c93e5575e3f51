use Rattle.ms_edits.specs.declared.spots.After.TheVariants.{Moved}
use Rattle.ms_edits.specs.Moved.{EndMisses, func_after}
use Rattle.ms_edits.proofs.ListLemmas.{NoneBelow}
use Rattle.ms_edits.proofs.moves.are_ends_missed.Given as goal

abbrev pub invariant-loop-c : goal.invariant-loop-c
invariant-loop-c l = NoneBelow (EndMisses (func_after l.func (Moved l.from l.to)).blocks l.to l.l) l.c
