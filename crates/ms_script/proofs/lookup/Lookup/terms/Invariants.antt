use Rattle.std.proofs.Common.{◌≡◌, ◌++◌, drop, map}
use Rattle.ms_resolve.specs.Scope.{index_of}
use Rattle.ms_script.specs.Names.{scope_of}
use Rattle.ms_script.proofs.lookup.Lookup.terms.Given as goal

-- the terms so far, and those of the rest behind them
abbrev pub invariant-loop-term : goal.invariant-loop-term
invariant-loop-term l = l.all ++ map (index_of (scope_of l.self.m.now l.self.func.now)) (drop l.term-index l.terms) ≡ map (index_of (scope_of l.self.m.now l.self.func.now)) l.terms
