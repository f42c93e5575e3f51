use Rattle.ms_climb.specs.Walk.{IsOpened}
use Rattle.ms_climb.proofs.walk.Walk.open.Given as goal

-- the first operands are reached
abbrev pub invariant-loop-slot : goal.invariant-loop-slot
invariant-loop-slot g l = IsOpened l.form (g.W.Writes.test l.counted) l.b l.slot l.fn.self l.self
