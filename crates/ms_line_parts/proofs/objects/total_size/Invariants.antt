use Rattle.std.proofs.Common.{◌≡◌, ℕ, ◌-◌, ◌≤◌, List, drop, length}
use Rattle.ms_grammar.specs.Parts.{texts}
use Rattle.ms_line_parts.specs.Sizes.{size_times, cut}
use Rattle.ms_line_parts.proofs.objects.total_size.Given as goal

pub record Invariant (all left : List (List ℕ)) (at count size : ℕ) : Type 0 where
  pub within : at ≤ count
  pub total : cut (size_times 1 all) ≡ cut (size_times size left)

abbrev pub invariant-loop-count : goal.invariant-loop-count
invariant-loop-count l = Invariant (texts l.line l.tokens) (texts l.line (drop l.at l.tokens)) l.at (length l.tokens) l.size

abbrev pub decreases-loop-count : goal.decreases-loop-count
decreases-loop-count l = length l.tokens - l.at
