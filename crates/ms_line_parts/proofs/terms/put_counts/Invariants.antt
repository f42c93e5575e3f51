use Rattle.std.proofs.Common.{◌≡◌, ◌++◌, ℕ, ◌-◌, ◌≤◌, List, drop, length}
use Rattle.ms_grammar.specs.Parts.{texts}
use Rattle.ms_line_parts.specs.Sizes.{array_counts, member_bytes}
use Rattle.ms_line_parts.proofs.terms.put_counts.Given as goal

pub record Invariant (all left : List (List ℕ)) (before counts : List ℕ) (at count : ℕ) : Type 0 where
  pub within : at ≤ count
  pub whole : before ++ array_counts all ≡ counts ++ array_counts left
  pub bytes : member_bytes all ≡ member_bytes left

abbrev pub invariant-loop-count : goal.invariant-loop-count
invariant-loop-count l = Invariant (texts l.line l.object) (texts l.line (drop l.at l.object)) l.initial.counts.items l.counts.items l.at (length l.object)

abbrev pub decreases-loop-count : goal.decreases-loop-count
decreases-loop-count l = length l.object - l.at
