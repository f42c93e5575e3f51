use Rattle.std.proofs.Common.{◌≡◌, ℕ, ◌+◌, ◌*◌, ◌-◌, ◌≤◌, List, drop, length}
use Rattle.ms_grammar.specs.Parts.{texts}
use Rattle.ms_line_parts.specs.Sizes.{counts_of}
use Rattle.ms_line_parts.proofs.objects.levels.Given as goal

pub record Invariant (all left : List (List ℕ)) (k count : ℕ) : Type 0 where
  pub within : 3 * k ≤ count
  pub sum : k + length (counts_of left) ≡ length (counts_of all)

abbrev pub invariant-loop-k : goal.invariant-loop-k
invariant-loop-k l = Invariant (texts l.line l.tokens) (texts l.line (drop (3 * l.k) l.tokens)) l.k (length l.tokens)

abbrev pub decreases-loop-k : goal.decreases-loop-k
decreases-loop-k l = length l.tokens - l.k
