use Rattle.std.proofs.Common.{◌≡◌, ℕ, List, ◌∷◌, ◌++◌, ◌+◌, ◌≤◌, ◌-◌, take, drop, length}
use Rattle.ms_grammar.specs.Kept.{AreMany, IsAttribute}
use Rattle.ms_grammar.specs.Parts.{texts}
use Rattle.ms_line_parts.specs.Rests.{IsGlobalKind}
use Rattle.ms_line_parts.proofs.Globals.{Left}
use Rattle.ms_line_parts.proofs.wholes.kind_place.Given as goal

pub record Invariant (all : List (List ℕ)) (at count : ℕ) : Type 0 where
  pub within : at ≤ count
  pub so_far : (k : ℕ) → AreMany IsAttribute (take k (drop at all)) → AreMany IsAttribute (take (at + k) all)
  pub first : (before : List (List ℕ)) (kind : List ℕ) (rest : List (List ℕ)) → all ≡ before ++ kind ∷ rest → AreMany IsAttribute before → IsGlobalKind kind → Left at before

abbrev pub invariant-loop-at : goal.invariant-loop-at
invariant-loop-at l = Invariant (texts l.line l.tokens) l.at (length l.tokens)

abbrev pub decreases-loop-at : goal.decreases-loop-at
decreases-loop-at l = length l.tokens - l.at
