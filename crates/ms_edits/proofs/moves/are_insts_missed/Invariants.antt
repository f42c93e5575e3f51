use Rattle.ms_edits.specs.declared.spots.After.TheVariants.{Moved}
use Rattle.ms_edits.specs.Moved.{NumberMisses, func_after}
use Rattle.ms_edits.proofs.ListLemmas.{NoneBelow}
use Rattle.ms_edits.proofs.moves.are_insts_missed.Given as goal

abbrev pub invariant-loop-i : goal.invariant-loop-i
invariant-loop-i l = NoneBelow (NumberMisses (func_after l.func (Moved l.from l.to)).blocks l.to l.l) l.i
