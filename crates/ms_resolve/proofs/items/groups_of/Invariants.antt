use Rattle.std.proofs.Common.{◌≡◌, [], drop}
use Rattle.ms_resolve.specs.Build.{groups_after}
use Rattle.ms_resolve.proofs.items.groups_of.Given as goal

-- the groups so far, and those of the rest behind them
abbrev pub invariant-loop-line : goal.invariant-loop-line
invariant-loop-line l = groups_after l.groups (drop l.line-index l.lines) ≡ groups_after [] l.lines
