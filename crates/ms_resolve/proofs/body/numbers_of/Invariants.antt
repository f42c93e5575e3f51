use Rattle.std.proofs.Common.{◌≡◌, drop}
use Rattle.ms_resolve.specs.Build.{numbers_after, no_numbers}
use Rattle.ms_resolve.proofs.body.numbers_of.Given as goal

-- the lines so far, and those of the rest behind them
abbrev pub invariant-loop-n : goal.invariant-loop-n
invariant-loop-n l = numbers_after l.numbers (drop l.n-index l.lines) ≡ numbers_after no_numbers l.lines
