use Rattle.std.proofs.Common.{◌≡◌, ◌<◌, ◌≤◌, ◌-◌, ℕ, true, length, slice_index}
use Rattle.ms_lex.specs.Bytes.{is_separator}
use Rattle.ms_lex.proofs.lex.next_place.Given as goal

-- only separators so far
abbrev pub invariant-loop-at : goal.invariant-loop-at
invariant-loop-at l = record {
  after : l.from ≤ l.at;
  within : l.at ≤ length l.line;
  gap : (k : ℕ) → l.from ≤ k → k < l.at → is_separator (slice_index l.line k) ≡ true;
}

abbrev pub decreases-loop-at : goal.decreases-loop-at
decreases-loop-at l = length l.line - l.at
