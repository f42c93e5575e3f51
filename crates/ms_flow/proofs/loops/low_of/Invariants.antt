use Rattle.ms_flow.specs.Loops.{IsLeast}
use Rattle.ms_flow.proofs.Lows.{FallsAmong}
use Rattle.ms_flow.proofs.loops.low_of.Given as goal

-- the least place over the first edges
abbrev pub invariant-loop-slot : goal.invariant-loop-slot
invariant-loop-slot l = IsLeast l.table (FallsAmong l.table l.fn.b l.slot) l.low
