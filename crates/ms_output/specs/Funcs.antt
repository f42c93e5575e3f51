-- The functions that the lines of a draft name, in their order.
use Rattle.std.specs.Prelude.{ℕ, List, [], ◌∷◌}
use Rattle.std.specs.List.{flat_map}
use Rattle.ms_grammar.specs.declared.line.Line.{Line}
use Rattle.ms_grammar.specs.declared.line.Line.TheVariants as said

abbrev pub func_said : Line → List (List ℕ)
func_said (said.Declare head) = head.name ∷ []
func_said (said.Define head) = head.name ∷ []
func_said _ = []

abbrev pub funcs_said : List (ℕ × Line) → List (List ℕ)
funcs_said draft = flat_map (λ entry. func_said entry.1) draft
