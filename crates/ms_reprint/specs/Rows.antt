-- Rows that say lines, whatever the limits.
use Rattle.std.specs.Prelude.{ℕ, List, [], ◌∷◌}
use Rattle.ms_grammar.specs.Grammar.{Says}
use Rattle.ms_grammar.specs.declared.line.Line.{Line}

-- each row says this line
abbrev pub AreSaid : List (List ℕ) → List Line → Type 0
AreSaid [] [] = Unit {0}
AreSaid (row ∷ rows) (line ∷ lines) = Says row line × AreSaid rows lines
AreSaid _ _ = ⊥
