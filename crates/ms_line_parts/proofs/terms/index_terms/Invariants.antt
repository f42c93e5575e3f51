use Rattle.std.proofs.Common.{ℕ, List, length}
use Rattle.std.specs.Prelude.{All}
use Rattle.ms_lex.specs.Line.{IsTokenOf}
use Rattle.ms_grammar.specs.Kept.{IsObject, IndexItem, AreWoven}
use Rattle.ms_grammar.specs.Parts.{texts}
use Rattle.ms_line_parts.proofs.Variables.{SoFar}
use Rattle.ms_line_parts.proofs.terms.index_terms.Given as goal

abbrev pub invariant-loop-ty : goal.invariant-loop-ty
invariant-loop-ty l =
    All (IsTokenOf l.line) l.left
    × ((sizes : List ℕ) (items : List IndexItem) (names : List (List ℕ)) → IsObject sizes (texts l.line l.object) → AreWoven items names (texts l.line l.indices) →
    SoFar sizes items names l.levels.items (texts l.line l.left) l.terms)

abbrev pub decreases-loop-ty : goal.decreases-loop-ty
decreases-loop-ty l = length l.left
