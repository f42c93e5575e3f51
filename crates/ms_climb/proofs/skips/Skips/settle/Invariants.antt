use Rattle.ms_climb.specs.Skips.{kept_count, IsSkipping}
use Rattle.ms_climb.proofs.skips.Skips.settle.Given as goal

abbrev pub invariant-settling : goal.invariant-settling
invariant-settling l = IsSkipping l.flow.graph l.form l.walk l.self

-- each turn leaves a phi out
abbrev pub decreases-settling : goal.decreases-settling
decreases-settling l = kept_count l.self
