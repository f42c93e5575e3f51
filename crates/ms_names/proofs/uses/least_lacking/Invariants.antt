use Rattle.std.proofs.Common.{◌≡◌, drop}
use Rattle.ms_names.specs.Uses.{known_by, least_lacking}
use Rattle.ms_names.proofs.uses.least_lacking.Given as goal

-- the least so far, and the rest
abbrev pub invariant-loop-n : goal.invariant-loop-n
invariant-loop-n l = least_lacking (known_by l.register l.symbols) l.least (drop l.n-index l.lines) ≡ least_lacking (known_by l.register l.symbols) l.fn.before l.lines
