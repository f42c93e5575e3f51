use Rattle.std.proofs.Common.{◌≡◌, ◌++◌, drop, map}
use Rattle.ms_resolve.specs.Scope.{index_of}
use Rattle.ms_resolve.specs.Reader.{scope_by}
use Rattle.ms_resolve.proofs.reader.Reader.terms.Given as goal

-- the terms so far, and those of the rest behind them
abbrev pub invariant-loop-term : goal.invariant-loop-term
invariant-loop-term l = l.all ++ map (index_of (scope_by l.self)) (drop l.term-index l.terms) ≡ map (index_of (scope_by l.self)) l.terms
