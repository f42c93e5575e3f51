use Rattle.ms_build.proofs.OneComing.{IsOneFound}
use Rattle.ms_build.proofs.entering.common_access.Given as goal

-- what was found at the first slots
abbrev pub invariant-loop-slot : goal.invariant-loop-slot
invariant-loop-slot l = IsOneFound l.flow.graph l.form l.b.0 l.slot l.common
