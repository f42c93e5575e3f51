use Rattle.ms_climb.proofs.SkipLemmas.{IsFoundWay}
use Rattle.ms_climb.proofs.skips.Skips.only_way.Given as goal

-- what was found among the first ways
abbrev pub invariant-loop-slot : goal.invariant-loop-slot
invariant-loop-slot l = IsFoundWay l.form l.walk l.self l.b l.slot l.other
