use Rattle.std.proofs.Common.{◌≡◌, ℕ, ◌+◌, ◌-◌, ◌≤◌, List, drop, length}
use Rattle.ms_grammar.specs.Parts.{texts}
use Rattle.ms_line_parts.specs.Sizes.{more_length}
use Rattle.ms_line_parts.proofs.objects.more_front.Given as goal

pub record Invariant (all left : List (List ℕ)) (at count : ℕ) : Type 0 where
  pub within : at ≤ count
  pub sum : at + more_length left ≡ more_length all

abbrev pub invariant-loop-at : goal.invariant-loop-at
invariant-loop-at l = Invariant (texts l.line l.tokens) (texts l.line (drop l.at l.tokens)) l.at (length l.tokens)

abbrev pub decreases-loop-at : goal.decreases-loop-at
decreases-loop-at l = length l.tokens - l.at
