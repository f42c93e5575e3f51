use Rattle.std.proofs.Common.{◌≡◌, [], drop}
use Rattle.ms_resolve.specs.Build.{sigs_after}
use Rattle.ms_resolve.proofs.items.sigs_of.Given as goal

-- what the functions so far say, and those of the rest behind them
abbrev pub invariant-loop-line : goal.invariant-loop-line
invariant-loop-line l = sigs_after l.groups l.sigs (drop l.line-index l.lines) ≡ sigs_after l.groups [] l.lines
