use Rattle.std.proofs.Common.{◌≡◌, ℕ, ℤ, ◌*◌, ◌-◌, ◌^◌, ◌≤◌, List, drop, length}
use Rattle.ms_grammar.specs.Parts.{texts}
use Rattle.ms_line_parts.specs.declared.objects.Sum.{Sum}
use Rattle.ms_line_parts.specs.Sums.{IsSum, sum_over}
use Rattle.ms_line_parts.proofs.objects.sum_over.Given as goal

-- each level may take 2^63 from how far a sum is known to be from 0
pub record Invariant (first : ℤ) (object indices object_left indices_left : List (List ℕ)) (at count place number : ℕ) (sum : Sum) : Type 0 where
  pub within : at ≤ count
  pub placed : place ≤ number
  pub value : ℤ
  pub is : IsSum (2 ^ 127 - 1 - at * 2 ^ 62) value sum
  pub total : sum_over first object (drop 2 indices) ≡ sum_over value object_left indices_left

abbrev pub invariant-loop-count : goal.invariant-loop-count
invariant-loop-count l =
    Invariant l.first (texts l.line l.object) (texts l.line l.indices) (texts l.line (drop l.at l.object)) (texts l.line (drop l.place l.indices)) l.at (length l.object) l.place (length l.indices) l.sum

abbrev pub decreases-loop-count : goal.decreases-loop-count
decreases-loop-count l = length l.object - l.at
