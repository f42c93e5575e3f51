use Rattle.ms_climb.specs.Options.{free}
use Rattle.ms_climb.specs.Chains.{first_of, IsClimbing}
use Rattle.ms_climb.proofs.chains.Chains.climb.Given as goal

abbrev pub invariant-climbing : goal.invariant-climbing
invariant-climbing g l = IsClimbing l.form (g.W.Writes.test l.counted) (first_of l.passed l.fn.from) l.at l.fn.self l.self

-- each turn marks a Def
abbrev pub decreases-climbing : goal.decreases-climbing
decreases-climbing g l = free l.self.marks
