use Rattle.std.proofs.Common.{◌≡◌, drop}
use Rattle.ms_names.specs.Draft.{symbols_after, no_symbols}
use Rattle.ms_names.proofs.symbols.symbols_of.Given as goal

-- the names so far, and those of the rest behind them
abbrev pub invariant-loop-n : goal.invariant-loop-n
invariant-loop-n l = symbols_after l.symbols (drop l.n-index l.lines) ≡ symbols_after no_symbols l.lines
