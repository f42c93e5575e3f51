use Rattle.std.proofs.Common.{ℕ, List, ◌≤◌, ◌-◌, drop, length}
use Rattle.ms_grammar.specs.Kept.{AreMany, IsTailItem}
use Rattle.ms_grammar.specs.Parts.{texts}
use Rattle.ms_line_parts.proofs.wholes.is_tail.Given as goal

pub record Invariant (all left : List (List ℕ)) (at count : ℕ) : Type 0 where
  pub within : at ≤ count
  pub yes : AreMany IsTailItem left → AreMany IsTailItem all
  pub no : AreMany IsTailItem all → AreMany IsTailItem left

abbrev pub invariant-loop-at : goal.invariant-loop-at
invariant-loop-at l = Invariant (texts l.line l.tokens) (texts l.line (drop l.at l.tokens)) l.at (length l.tokens)

abbrev pub decreases-loop-at : goal.decreases-loop-at
decreases-loop-at l = length l.tokens - l.at
