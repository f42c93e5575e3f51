use Rattle.ms_edits.specs.Told.{NumberHasOperand}
use Rattle.ms_edits.proofs.ListLemmas.{NoneBelow}
use Rattle.ms_edits.proofs.uses.insts_have.Given as goal

abbrev pub invariant-loop-i : goal.invariant-loop-i
invariant-loop-i l = NoneBelow (λ n. NumberHasOperand l.func.blocks n l.l) l.i
