use Rattle.std.proofs.Common.{◌≡◌}
use Rattle.ms_ir.specs.Sound.{IsUsedBefore}
use Rattle.ms_ir.specs.Uses.{uses_at}
use Rattle.ms_validity.proofs.ListLemmas.{AtPlace, NoneBelow}
use Rattle.ms_validity.proofs.order.inst_order.Given as goal

abbrev pub invariant-loop-k : goal.invariant-loop-k
invariant-loop-k l = (l.flow ≡ l.initial.flow) × NoneBelow (AtPlace (uses_at l.func.blocks l.at.block l.at.place l.inst) (IsUsedBefore l.func)) l.k
