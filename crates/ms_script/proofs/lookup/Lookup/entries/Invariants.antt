use Rattle.std.proofs.Common.{◌≡◌, ◌++◌, drop, map}
use Rattle.ms_resolve.specs.Scope.{entry_of}
use Rattle.ms_script.specs.Names.{scope_of}
use Rattle.ms_script.proofs.lookup.Lookup.entries.Given as goal

-- the entries so far, and those of the rest behind them
abbrev pub invariant-loop-entry : goal.invariant-loop-entry
invariant-loop-entry l = l.all ++ map (entry_of (scope_of l.self.m.now l.self.func.now)) (drop l.entry-index l.entries) ≡ map (entry_of (scope_of l.self.m.now l.self.func.now)) l.entries
