-- What the tokens of a line spell, and what is found among them.
use Rattle.std.specs.Prelude.{◌≡◌, ℕ, List, ◌∷◌, Option, Some, None}
use Rattle.ms_lex.specs.declared.token.Token.{Token}
use Rattle.ms_grammar.specs.Kept.{Each}
use Rattle.ms_ir.specs.declared.names.Name.{Name}
use Rattle.ms_grammar.specs.Parts.{Part, blank, Spells, bytes_at}
use Rattle.ms_grammar.specs.Form.{Scale, form, word_part, inst_parts}
use Rattle.ms_grammar.specs.Fits.{FitsLine, FitsInst, IsMade}
use Rattle.ms_grammar.specs.Grammar.{IsReadableToken, Says}
use Rattle.ms_grammar.specs.Limits.{IsSmall}
use Rattle.ms_grammar.specs.declared.line.Line.{Line}
use Rattle.ms_grammar.specs.declared.line.Line.TheVariants.{Inst}
use Rattle.ms_grammar.specs.declared.line.RawInst.{RawInst}
use Rattle.ms_grammar.specs.declared.keyword.Keyword.TheVariants as word
use Rattle.ms_line_insts.specs.Found.{SpellInst}
use Rattle.ms_line.specs.Sorts.{sort_of}
use Rattle.ms_line.specs.Shapes.{shape_of}
use Rattle.ms_line.specs.declared.shape.Shape.{Shape}
use Rattle.ms_line.specs.declared.found.Said.{Said}
use Rattle.ms_line.specs.declared.found.Said.TheVariants.{Whole, Past}

-- tokens spell a line
pub record SpellLine (line : List ℕ) (tokens : List Token) (written : Line) : Type 0 where
  pub scale : Scale
  pub spelled : Spells line tokens (form scale written)
  pub fits : FitsLine scale written

abbrev pub AreReadable : List ℕ → List Token → Type 0
AreReadable line tokens = Each (λ t. IsReadableToken t.kind (bytes_at line t)) tokens

-- what stands behind the name of a result
abbrev pub named_inst_parts : Scale → RawInst → List Part
named_inst_parts scale inst = blank ∷ word_part word.Equals ∷ blank ∷ inst_parts scale inst

-- what is told of a line
abbrev pub TellsLine : Line → Said → Type 0
TellsLine written (Whole l) = (l ≡ written) × IsSmall written
TellsLine written (Past sort) = (sort ≡ sort_of written) × (IsSmall written → ⊥)

-- what tokens say
abbrev pub IsFound : List ℕ → List Token → Option Said → Type 0
IsFound line tokens None = (written : Line) → SpellLine line tokens written → ⊥
IsFound line tokens (Some said) = (written : Line) × SpellLine line tokens written × TellsLine written said

-- what the tokens of an instruction say, whose result has a name
abbrev pub FindsMade : Name → List ℕ → List Token → Option Said → Type 0
FindsMade n line tokens None = (inst : RawInst) → SpellInst line tokens inst → IsMade n inst → ⊥
FindsMade n line tokens (Some said) = (inst : RawInst) × SpellInst line tokens inst × IsMade n inst × TellsLine (Inst n inst) said

-- what tokens say behind the name of a result
abbrev pub FindsNamed : Name → List ℕ → List Token → Option Said → Type 0
FindsNamed n line tokens None = (scale : Scale) (inst : RawInst) → Spells line tokens (named_inst_parts scale inst) → FitsInst scale inst → IsMade n inst → ⊥
FindsNamed n line tokens (Some said) =
    (scale : Scale) × (inst : RawInst) × Spells line tokens (named_inst_parts scale inst) × FitsInst scale inst × IsMade n inst × TellsLine (Inst n inst) said

-- what tokens say, or that they say no line of this form
abbrev pub Finds : Shape → List ℕ → List Token → Option Said → Type 0
Finds shape line tokens None = (written : Line) → SpellLine line tokens written → shape_of written ≡ shape → ⊥
Finds shape line tokens (Some said) = (written : Line) × SpellLine line tokens written × TellsLine written said

-- what a line says
abbrev pub IsSaid : List ℕ → Said → Type 0
IsSaid bytes said = (written : Line) × Says bytes written × TellsLine written said
