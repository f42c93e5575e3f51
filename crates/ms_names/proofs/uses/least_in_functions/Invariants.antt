use Rattle.std.proofs.Common.{◌≡◌, drop}
use Rattle.ms_names.specs.Uses.{least_after}
use Rattle.ms_names.proofs.uses.least_in_functions.Given as goal

-- the least so far, and the rest
abbrev pub invariant-loop-at : goal.invariant-loop-at
invariant-loop-at l = least_after l.symbols l.least (drop l.at l.lines) ≡ least_after l.symbols l.fn.before l.lines
