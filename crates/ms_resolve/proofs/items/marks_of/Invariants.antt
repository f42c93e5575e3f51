use Rattle.std.proofs.Common.{◌≡◌, ◌++◌, drop, map}
use Rattle.ms_resolve.specs.Meaning.{keeps_in}
use Rattle.ms_resolve.specs.Scope.{mark_of}
use Rattle.ms_resolve.proofs.items.marks_of.Given as goal

-- the marks so far, and those of the rest behind them
abbrev pub invariant-loop-param : goal.invariant-loop-param
invariant-loop-param l = l.marks ++ map (mark_of keeps_in) (drop l.param-index l.params) ≡ map (mark_of keeps_in) l.params
