use Rattle.std.proofs.Common.{◌≡◌, ◌++◌, drop}
use Rattle.ms_resolve.specs.Scope.{args_of}
use Rattle.ms_script.specs.Names.{scope_of}
use Rattle.ms_script.proofs.lookup.Lookup.args.Given as goal

-- the arguments so far, and those of the rest behind them
abbrev pub invariant-loop-at : goal.invariant-loop-at
invariant-loop-at l = l.all ++ args_of (scope_of l.self.m.now l.self.func.now) (drop l.at l.marks) (drop l.at l.args) ≡ args_of (scope_of l.self.m.now l.self.func.now) l.marks l.args
