use Rattle.std.proofs.Common.{◌≡◌, drop}
use Rattle.ms_names.specs.Draft.{lines_after}
use Rattle.ms_names.proofs.register.Register.add_lines.Given as goal

-- the names so far, and those of the rest behind them
abbrev pub invariant-loop-n : goal.invariant-loop-n
invariant-loop-n l = lines_after l.self (drop l.n-index l.body) ≡ lines_after l.initial.self l.body
