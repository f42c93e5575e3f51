use Rattle.std.proofs.Common.{ℕ, Bool, List, ◌≤◌, ◌+◌, ◌-◌, drop, length}
use Rattle.ms_grammar.specs.Parts.{texts}
use Rattle.ms_line_parts.specs.Reach.{AreLongest}
use Rattle.ms_line_parts.proofs.attributes.items_front.Given as goal

pub record Invariant (all left : List (List ℕ)) (metadata : Bool) (at count : ℕ) : Type 0 where
  pub within : at ≤ count
  pub so_far : (n : ℕ) → AreLongest metadata left n → AreLongest metadata all (at + n)

abbrev pub invariant-loop-n : goal.invariant-loop-n
invariant-loop-n l = Invariant (texts l.line l.tokens) (texts l.line (drop l.at l.tokens)) l.metadata l.at (length l.tokens)

abbrev pub decreases-loop-n : goal.decreases-loop-n
decreases-loop-n l = length l.tokens - l.at
