use Rattle.std.proofs.Common.{◌≡◌, ◌++◌, drop, map}
use Rattle.ms_resolve.specs.Scope.{entry_of}
use Rattle.ms_resolve.specs.Reader.{scope_by}
use Rattle.ms_resolve.proofs.reader.Reader.entries.Given as goal

-- the entries so far, and those of the rest behind them
abbrev pub invariant-loop-entry : goal.invariant-loop-entry
invariant-loop-entry l = l.all ++ map (entry_of (scope_by l.self)) (drop l.entry-index l.entries) ≡ map (entry_of (scope_by l.self)) l.entries
