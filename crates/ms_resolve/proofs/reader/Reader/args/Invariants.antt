use Rattle.std.proofs.Common.{◌≡◌, ◌++◌, drop}
use Rattle.ms_resolve.specs.Scope.{args_of}
use Rattle.ms_resolve.specs.Reader.{scope_by}
use Rattle.ms_resolve.proofs.reader.Reader.args.Given as goal

-- the arguments so far, and those of the rest behind them
abbrev pub invariant-loop-at : goal.invariant-loop-at
invariant-loop-at l = l.all ++ args_of (scope_by l.self) (drop l.at l.marks) (drop l.at l.args) ≡ args_of (scope_by l.self) l.marks l.args
