use Rattle.std.proofs.Common.{◌≡◌, ◌++◌, drop}
use Rattle.ms_resolve.specs.Scope.{params_from}
use Rattle.ms_resolve.specs.Reader.{scope_by}
use Rattle.ms_resolve.proofs.reader.Reader.params.Given as goal

-- the parameters so far, and those of the rest behind them
abbrev pub invariant-loop-at : goal.invariant-loop-at
invariant-loop-at l = l.all ++ params_from (scope_by l.self) l.at (drop l.at l.params) ≡ params_from (scope_by l.self) 0 l.params
