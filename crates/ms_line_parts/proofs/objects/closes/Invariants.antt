use Rattle.std.proofs.Common.{◌≡◌, ℕ, ◌-◌, ◌≤◌, List, drop, length}
use Rattle.ms_grammar.specs.Parts.{texts}
use Rattle.ms_line_parts.specs.Sizes.{closes}
use Rattle.ms_line_parts.proofs.objects.closes.Given as goal

pub record Invariant (all left : List (List ℕ)) (i k count : ℕ) : Type 0 where
  pub within : i ≤ count
  pub same : closes (k - i) left ≡ closes k all

abbrev pub invariant-loop-i : goal.invariant-loop-i
invariant-loop-i l = Invariant (texts l.line l.tokens) (texts l.line (drop l.i l.tokens)) l.i l.k (length l.tokens)
