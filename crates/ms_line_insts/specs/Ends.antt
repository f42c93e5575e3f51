-- All tokens up to the line's end.
use Rattle.std.specs.Prelude.{ℕ, List, [], ◌∷◌, ◌++◌}
use Rattle.ms_lex.specs.declared.token.Token.{Token}
use Rattle.ms_ir.specs.declared.names.Ty.{Ty}
use Rattle.ms_grammar.specs.Parts.{Part, blank, kept, tail}
use Rattle.ms_grammar.specs.Form.{word_part, type_part, value_part, typed_parts, comma_parts}
use Rattle.ms_grammar.specs.Fits.{IsInt, IsValue}
use Rattle.ms_grammar.specs.declared.keyword.Keyword.{Keyword}
use Rattle.ms_ir.specs.declared.names.Ty.TheVariants.{I1}
use Rattle.ms_grammar.specs.declared.line.RawVal.{RawVal}
use Rattle.ms_line_insts.specs.Front.{Spelt, typed}

-- the tokens spell nothing of a kind
abbrev pub NoEnd : {X : Type 0} → (X → Type 0) → (X → List Part) → List ℕ → List Token → Type 0
NoEnd {X} Fits parts line tokens = (x : X) → Fits x → Spelt line tokens (parts x) → ⊥

-- the tokens spell one thing of a kind
pub record End {X : Type 0} (Fits : X → Type 0) (parts : X → List Part) (line : List ℕ) (tokens : List Token) (x : X) : Type 0 where
  pub fits : Fits x
  pub spelt : Spelt line tokens (parts x)

-- a thing, and the tail behind it
abbrev pub Tailed : {X : Type 0} → (X → Type 0) → X × List ℕ → Type 0
Tailed Fits g = Fits g.0

abbrev pub tailed : {X : Type 0} → (X → List Part) → X × List ℕ → List Part
tailed parts g = parts g.0 ++ kept tail g.1 ∷ []

-- a further value, its type being known
abbrev pub further_value_parts : RawVal → List Part
further_value_parts v = comma_parts ++ value_part v ∷ []

abbrev pub further_given_parts : Ty → RawVal → List Part
further_given_parts ty v = comma_parts ++ typed_parts ty v

-- a number behind its type
abbrev pub IsNumber : Ty × RawVal → Type 0
IsNumber g = IsInt g.0 × IsValue g.0 g.1

-- two numbers of a type, and the tail
abbrev pub IsPair : (Ty × RawVal) × (RawVal × List ℕ) → Type 0
IsPair p = IsNumber p.0 × IsValue p.0.0 p.1.0

abbrev pub pair_end_parts : (Ty × RawVal) × (RawVal × List ℕ) → List Part
pair_end_parts p = typed p.0 ++ tailed further_value_parts p.1

-- a type behind a word, and a condition behind one
abbrev pub type_lead_parts : Keyword → Ty → List Part
type_lead_parts keyword ty = word_part keyword ∷ blank ∷ type_part ty ∷ []

abbrev pub condition_parts : Keyword → RawVal → List Part
condition_parts keyword v = word_part keyword ∷ blank ∷ typed_parts I1 v
