use Rattle.std.proofs.Common.{◌≡◌, ◌≤◌, ◌-◌, length}
use Rattle.ms_lex.specs.Line.{Follow}
use Rattle.ms_lex.proofs.lex.tokens.Given as goal

-- the tokens so far follow one another up to this place
abbrev pub invariant-loop-tokens : goal.invariant-loop-tokens
invariant-loop-tokens l = record {
  within : l.from ≤ length l.line;
  follow : Follow l.line (λ place. place ≡ l.from) 0 l.tokens;
}

abbrev pub decreases-loop-tokens : goal.decreases-loop-tokens
decreases-loop-tokens l = length l.line - l.from
