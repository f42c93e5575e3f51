-- The attributes, the type and the indices of a getelementptr.
use Rattle.std.specs.Prelude.{◌≡◌, ℕ, ℤ, List, [], ◌∷◌, ◌++◌, map, All}
use Rattle.ms_lex.specs.Line.{IsTokenOf}
use Rattle.ms_lex.specs.declared.token.Token.{Token}
use Rattle.ms_grammar.specs.Kept.{IsObject, IsIndexList, IndexItem, constant, AreWoven}
use Rattle.ms_grammar.specs.Parts.{Part, blank, kept, woven, tail, gep_head, indices, texts, kept_text, cut_text, joined}
use Rattle.ms_grammar.specs.Form.{word_part, comma_parts}
use Rattle.ms_grammar.specs.declared.keyword.Keyword.TheVariants as word
use Rattle.ms_grammar.specs.declared.line.RawVal.{RawVal}
use Rattle.ms_grammar.specs.declared.line.RawIndex.{RawIndex}
use Rattle.ms_grammar.specs.declared.line.RawInst.TheVariants.{Gep, Step}
use Rattle.ms_line_insts.specs.Found.{SpellInst}
use Rattle.ms_line_insts.specs.Front.{Spelt}
use Rattle.ms_line_insts.specs.Cuts.{TypesObject, HasIndices}

-- the word, attributes and type
abbrev pub gep_parts : List ℕ → List ℕ → List Part
gep_parts sizes head = word_part word.Getelementptr ∷ blank ∷ kept (gep_head sizes) head ∷ []

abbrev pub NoGepHead : List ℕ → List Token → Type 0
NoGepHead line tokens = (sizes head : List ℕ) (ps : List Part) → Spelt line tokens (gep_parts sizes head ++ ps) → ⊥

-- the type is this one, and what is behind it spells the rest
pub record GepBehind (line : List ℕ) (object rest : List Token) (sizes : List ℕ) (ps : List Part) : Type 0 where
  pub sized : IsObject sizes (texts line object)
  pub further : Spelt line rest ps

pub record GepCut (line : List ℕ) (tokens before object rest : List Token) : Type 0 where
  pub attributes : All (IsTokenOf line) before
  pub owned : All (IsTokenOf line) object
  pub behind : All (IsTokenOf line) rest
  pub types : TypesObject line object
  pub on : (sizes : List ℕ) (ps : List Part) → IsObject sizes (texts line object) → Spelt line rest ps →
      Spelt line tokens (gep_parts sizes (joined (kept_text line before ∷ kept_text line object ∷ [])) ++ ps)
  pub back : (sizes head : List ℕ) (ps : List Part) → Spelt line tokens (gep_parts sizes head ++ ps) → GepBehind line object rest sizes ps

-- the indices behind a comma, and the tail: numbers alone, or with locals among them
abbrev pub index_parts : List ℤ → List ℕ → List ℕ → List Part
index_parts values index rest = comma_parts ++ kept (indices values) index ∷ kept tail rest ∷ []

abbrev pub step_parts : List IndexItem → List (List ℕ) → List ℕ → List ℕ → List Part
step_parts items names index rest = comma_parts ++ woven items names index ∷ kept tail rest ∷ []

-- parts that are such a list
pub data IsList (items : List IndexItem) (names : List (List ℕ)) (ps : List Part) : Type 0 where
  numbers : (values : List ℤ) (index rest : List ℕ) → items ≡ map constant values → names ≡ [] → ps ≡ index_parts values index rest → IsList items names ps
  variables : (index rest : List ℕ) → ps ≡ step_parts items names index rest → IsList items names ps

abbrev pub NoIndices : List ℕ → List Token → Type 0
NoIndices line tokens = (items : List IndexItem) (names : List (List ℕ)) (ps : List Part) → IsList items names ps → Spelt line tokens ps → ⊥

pub record Indices (line : List ℕ) (tokens run : List Token) (text : List ℕ) : Type 0 where
  pub owned : All (IsTokenOf line) run
  pub has : HasIndices line run
  pub on : (values : List ℤ) → IsIndexList values (texts line run) → Spelt line tokens (index_parts values (kept_text line run) text)
  pub woven_on : (items : List IndexItem) (names : List (List ℕ)) → AreWoven items names (texts line run) → Spelt line tokens (step_parts items names (cut_text line run) text)
  pub back : (items : List IndexItem) (names : List (List ℕ)) (ps : List Part) → IsList items names ps → Spelt line tokens ps → AreWoven items names (texts line run)

-- tokens spell no getelementptr
pub record NoPointer (line : List ℕ) (tokens : List Token) : Type 0 where
  pub of_numbers : (base : RawVal) (offset : ℤ) (head index rest : List ℕ) → SpellInst line tokens (Gep base offset head index rest) → ⊥
  pub of_variables : (base : RawVal) (offset : ℤ) (terms : List RawIndex) (head index rest : List ℕ) → SpellInst line tokens (Step base offset terms head index rest) → ⊥
