use Rattle.std.proofs.Common.{◌≡◌, [], drop}
use Rattle.ms_resolve.specs.Build.{bodies_after}
use Rattle.ms_resolve.proofs.items.bodies_of.Given as goal

-- the bodies so far, and those of the rest behind them
abbrev pub invariant-loop-at : goal.invariant-loop-at
invariant-loop-at l = bodies_after l.bodies (drop l.at l.lines) ≡ bodies_after [] l.lines
