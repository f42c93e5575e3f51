use Rattle.ms_build.proofs.Only.{IsOnly}
use Rattle.ms_build.proofs.settling.only_other.Given as goal

-- what was found among the first operands
abbrev pub invariant-loop-slot : goal.invariant-loop-slot
invariant-loop-slot l = IsOnly l.form l.b l.slot l.other
