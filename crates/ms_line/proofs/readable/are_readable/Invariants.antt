use Rattle.std.proofs.Common.{◌↔◌, drop}
use Rattle.ms_line.specs.Spelled.{AreReadable}
use Rattle.ms_line.proofs.readable.are_readable.Given as goal

-- the tokens so far may be read
abbrev pub invariant-loop-token : goal.invariant-loop-token
invariant-loop-token l = AreReadable l.line (drop l.token-index l.tokens) ↔ AreReadable l.line l.tokens
