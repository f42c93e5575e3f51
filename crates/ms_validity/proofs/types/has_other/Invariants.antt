use Rattle.ms_ir.specs.Sound.{HasOtherType}
use Rattle.ms_ir.specs.Uses.{operands_of}
use Rattle.ms_validity.proofs.ListLemmas.{AtPlace, NoneBelow}
use Rattle.ms_validity.proofs.types.has_other.Given as goal

abbrev pub invariant-loop-k : goal.invariant-loop-k
invariant-loop-k l = NoneBelow (AtPlace (operands_of l.inst) (HasOtherType l.func)) l.k
