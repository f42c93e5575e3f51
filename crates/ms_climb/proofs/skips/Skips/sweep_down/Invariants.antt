use Rattle.ms_climb.specs.Skips.{IsSkipping}
use Rattle.ms_climb.proofs.SkipLemmas.{IsSweptDown}
use Rattle.ms_climb.proofs.skips.Skips.sweep_down.Given as goal

-- the last phis were tried
abbrev pub invariant-loop-k : goal.invariant-loop-k
invariant-loop-k l = IsSkipping l.flow.graph l.form l.walk l.self × IsSweptDown l.flow.graph l.form l.walk l.k l.fn.self l.self l.changed
