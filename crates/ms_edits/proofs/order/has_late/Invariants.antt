use Rattle.std.proofs.Common.{◌+◌}
use Rattle.ms_ir.specs.Uses.{operands_of}
use Rattle.ms_edits.specs.Told.{AtPlace, IsLateAt}
use Rattle.ms_edits.specs.Moved.{func_after}
use Rattle.ms_edits.proofs.ListLemmas.{NoneBelow}
use Rattle.ms_edits.proofs.order.has_late.Given as goal

abbrev pub invariant-loop-k : goal.invariant-loop-k
invariant-loop-k l = NoneBelow (AtPlace (operands_of l.inst) (IsLateAt (func_after l.func l.after) l.at.block l.at.place)) (l.k + 1)
