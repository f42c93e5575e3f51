use Rattle.std.proofs.Common.{◌≤◌}
use Rattle.ms_climb.specs.Skips.{kept_count, IsSkipping}
use Rattle.ms_climb.proofs.skips.Skips.sweep_up.Given as goal

-- the first phis were tried
abbrev pub invariant-loop-k : goal.invariant-loop-k
invariant-loop-k l = IsSkipping l.flow.graph l.form l.walk l.self × (kept_count l.self ≤ kept_count l.fn.self)
