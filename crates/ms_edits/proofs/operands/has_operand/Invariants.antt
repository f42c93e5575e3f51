use Rattle.std.proofs.Common.{◌+◌}
use Rattle.ms_ir.specs.Uses.{operands_of}
use Rattle.ms_edits.specs.Told.{AtPlace, IsAsked}
use Rattle.ms_edits.proofs.ListLemmas.{NoneBelow}
use Rattle.ms_edits.proofs.operands.has_operand.Given as goal

abbrev pub invariant-loop-k : goal.invariant-loop-k
invariant-loop-k l = NoneBelow (AtPlace (operands_of l.inst) (IsAsked l.func l.ask)) (l.k + 1)
