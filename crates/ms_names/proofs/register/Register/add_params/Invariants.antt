use Rattle.std.proofs.Common.{◌≡◌, drop}
use Rattle.ms_names.specs.Draft.{params_after}
use Rattle.ms_names.proofs.register.Register.add_params.Given as goal

-- the names so far, and those of the rest behind them
abbrev pub invariant-loop-param : goal.invariant-loop-param
invariant-loop-param l = params_after l.self l.n (drop l.param-index l.params) ≡ params_after l.initial.self l.n l.params
