-- Lists in front of tokens.
use Rattle.std.specs.Prelude.{◌≡◌, ◌≢◌, ◌<◌, ℕ, length, map, List, [], ◌∷◌, ◌++◌, All}
use Rattle.ms_lex.specs.Line.{IsTokenOf}
use Rattle.ms_lex.specs.declared.token.Token.{Token}
use Rattle.ms_grammar.specs.declared.keyword.Keyword.TheVariants as word
use Rattle.ms_grammar.specs.Parts.{Part, blank, kept, tail}
use Rattle.ms_grammar.specs.Form.{word_part, value_part, local_part, comma_parts, listed, entry_parts}
use Rattle.ms_grammar.specs.Fits.{IsEntryOf}
use Rattle.ms_grammar.specs.declared.line.RawEntry.{RawEntry}
use Rattle.ms_grammar.specs.declared.line.RawVal.{RawVal}
use Rattle.ms_ir.specs.declared.names.Name.{Name}
use Rattle.ms_ir.specs.declared.names.Ty.{Ty}
use Rattle.ms_grammar.specs.Kept.{Each}
use Rattle.ms_line_insts.specs.Front.{Spelt, Behind}

-- no member of a list, or all of them, where a list ends before certain parts
abbrev pub NoList : {X : Type 0} → (List Part → Type 0) → (X → Type 0) → (X → List Part) → List ℕ → List Token → Type 0
NoList {X} Ends Fits parts line tokens = (ys : List X) (ps : List Part) → ys ≢ [] → Ends ps → Each Fits ys → Spelt line tokens (listed (map parts ys) ++ ps) → ⊥

pub record ListFront {X : Type 0} (Ends : List Part → Type 0) (Fits : X → Type 0) (parts : X → List Part) (line : List ℕ) (tokens : List Token) (xs : List X) (rest : List Token) : Type 0 where
  pub some : xs ≢ []
  pub fits : Each Fits xs
  pub owned : All (IsTokenOf line) rest
  pub shorter : length rest < length tokens
  pub on : (ps : List Part) → Spelt line rest ps → Spelt line tokens (listed (map parts xs) ++ ps)
  pub back : (ys : List X) (ps : List Part) → ys ≢ [] → Ends ps → Each Fits ys → Spelt line tokens (listed (map parts ys) ++ ps) → Behind ys xs line rest ps

-- a kept tail up to the line's end
abbrev pub IsTail : List Part → Type 0
IsTail ps = (text : List ℕ) × (ps ≡ kept tail text ∷ [])

-- a member behind a comma
abbrev pub behind_comma : {X : Type 0} → (X → List Part) → X → List Part
behind_comma parts x = word_part word.Comma ∷ blank ∷ parts x

-- the value and the block of a phi's entry
abbrev pub entry_value_parts : RawVal → List Part
entry_value_parts v = word_part word.OpenSquare ∷ blank ∷ value_part v ∷ []

abbrev pub entry_block_parts : Name → List Part
entry_block_parts n = comma_parts ++ local_part n ∷ []

abbrev pub entry_close_parts : Name → List Part
entry_close_parts n = entry_block_parts n ++ blank ∷ word_part word.CloseSquare ∷ []

-- the entries of a phi, and the tail
abbrev pub AreEntries : Ty → List RawEntry × List ℕ → Type 0
AreEntries ty e = (e.0 ≢ []) × Each (IsEntryOf ty) e.0

abbrev pub entries_end_parts : List RawEntry × List ℕ → List Part
entries_end_parts e = listed (map entry_parts e.0) ++ kept tail e.1 ∷ []
