-- The lines of a script.
use Rattle.std.specs.Prelude.{◌≡◌, ℕ, ◌<◌, ◌^◌, false, List, [], ◌∷◌, ◌++◌, Option, Some, None, drop, slice_get}
use Rattle.ms_lex.specs.Line.{IsTokens}
use Rattle.ms_lex.specs.declared.token.Token.{Token}
use Rattle.ms_ir.specs.declared.names.FuncNo.{FuncNo}
use Rattle.ms_ir.specs.declared.names.Name.{Name}
use Rattle.ms_ir.specs.declared.names.Name.TheVariants as name
use Rattle.ms_ir.specs.Func.{FuncState}
use Rattle.ms_ir.specs.Module.{ModuleState, body_of}
use Rattle.ms_grammar.specs.Words.{spelling}
use Rattle.ms_grammar.specs.Numbers.{IsCount, is_negative}
use Rattle.ms_grammar.specs.Parts.{bytes_at}
use Rattle.ms_grammar.specs.Form.{name_text}
use Rattle.ms_grammar.specs.Fits.{IsNamed}
use Rattle.ms_grammar.specs.Grammar.{Says}
use Rattle.ms_grammar.specs.Limits.{IsShort, IsWithinLimits}
use Rattle.ms_grammar.specs.declared.line.Line.TheVariants as said
use Rattle.ms_grammar.specs.declared.line.RawInst.{RawInst}
use Rattle.ms_grammar.specs.declared.keyword.Keyword.TheVariants as word
use Rattle.ms_script.specs.Verbs.{verb_text}
use Rattle.ms_script.specs.Calls.{CallsAsThere}
use Rattle.ms_script.specs.declared.verb.Verb.{Verb}
use Rattle.ms_script.specs.declared.verb.Verb.TheVariants as verb
use Rattle.ms_script.specs.declared.edit.RawEdit.{RawEdit}
use Rattle.ms_script.specs.declared.edit.RawEdit.TheVariants.{Insert, Remove, Move, Unlink}

-- a number without a sign, below 2^32; zeros may stand in front
pub record IsPlace (n : ℕ) (s : List ℕ) : Type 0 where
  pub count : IsCount n s
  pub unsigned : is_negative s ≡ false
  pub low : n < 2 ^ 32

-- a word of the language, or none
abbrev pub IsResultName : Name → Type 0
IsResultName (name.Word text) = Unit {0}
IsResultName (name.Number n) = ⊥
IsResultName name.Absent = Unit {0}

-- the word that begins an edit's line, its block, and its place or slot
abbrev pub verb_of : RawEdit → Verb
verb_of (Insert block place inst result) = verb.Insert
verb_of (Remove block place) = verb.Remove
verb_of (Move block place to_block to_place) = verb.Move
verb_of (Unlink block slot) = verb.Unlink

abbrev pub block_of : RawEdit → Name
block_of (Insert block place inst result) = block
block_of (Remove block place) = block
block_of (Move block place to_block to_place) = block
block_of (Unlink block slot) = block

abbrev pub number_of : RawEdit → ℕ
number_of (Insert block place inst result) = place
number_of (Remove block place) = place
number_of (Move block place to_block to_place) = place
number_of (Unlink block slot) = slot

-- a block and a number stand first among tokens, and these are behind them
pub record IsSpot (line : List ℕ) (block : Name) (n : ℕ) (tokens rest : List Token) : Type 0 where
  pub local : Token
  pub numeral : Token
  pub whole : tokens ≡ local ∷ numeral ∷ rest
  pub block_is : bytes_at line local ≡ 37 ∷ name_text block
  pub named : IsNamed block
  pub number_is : IsPlace n (bytes_at line numeral)

-- the word to, a block and a number
pub record IsTarget (line : List ℕ) (block : Name) (n : ℕ) (tokens : List Token) : Type 0 where
  pub to : Token
  pub spot : List Token
  pub whole : tokens ≡ to ∷ spot
  pub to_is : bytes_at line to ≡ spelling word.To
  pub spot_is : IsSpot line block n spot []

-- A colon, and behind it a line of the module's grammar that is an instruction: its result has a word, or no name, and what it calls is
-- called as it is in the module.
pub record IsInserted (m : ModuleState) (line : List ℕ) (tokens : List Token) (inst : RawInst) (result : Name) : Type 0 where
  pub colon : Token
  pub more : List Token
  pub whole : tokens ≡ colon ∷ more
  pub colon_is : bytes_at line colon ≡ spelling word.Colon
  pub says : Says (drop colon.to line) (said.Inst result inst)
  pub named : IsResultName result
  pub called : CallsAsThere m inst

-- what stands behind the block and the number
abbrev pub Ends : ModuleState → List ℕ → List Token → RawEdit → Type 0
Ends m line tokens (Insert block place inst result) = IsInserted m line tokens inst result
Ends m line tokens (Remove block place) = tokens ≡ []
Ends m line tokens (Move block place to_block to_place) = IsTarget line to_block to_place tokens
Ends m line tokens (Unlink block slot) = tokens ≡ []

-- The line is an edit of a function: its tokens are the edit's word, the name of the function, which has a body in the module, a block and a
-- number, and then what such an edit has behind them.
pub record IsEditLine (m : ModuleState) (line : List ℕ) (func : FuncNo) (edit : RawEdit) : Type 0 where
  pub verb : Token
  pub global : Token
  pub spot : List Token
  pub rest : List Token
  pub are_tokens : IsTokens line (verb ∷ global ∷ spot)
  pub verb_is : bytes_at line verb ≡ verb_text (verb_of edit)
  pub name : List ℕ
  pub global_is : bytes_at line global ≡ 64 ∷ name
  pub spot_is : IsSpot line (block_of edit) (number_of edit) spot rest
  pub ends : Ends m line rest edit
  pub func_is : slice_get m.names.funcs func.0 ≡ Some name
  pub body : FuncState
  pub body_is : body_of m func.0 ≡ Some body

-- what a line says: nothing, where it has no token, or an edit of a function
abbrev pub SaysEdit : ModuleState → List ℕ → Option (FuncNo × RawEdit) → Type 0
SaysEdit m line None = IsTokens line []
SaysEdit m line (Some entry) = IsEditLine m line entry.0 entry.1

-- the names of an edit's blocks are short, and its instruction is within the limits of lines
abbrev pub IsSmallEdit : RawEdit → Type 0
IsSmallEdit (Insert block place inst result) = IsShort (name_text block) × IsWithinLimits (said.Inst result inst)
IsSmallEdit (Remove block place) = IsShort (name_text block)
IsSmallEdit (Move block place to_block to_place) = IsShort (name_text block) × IsShort (name_text to_block)
IsSmallEdit (Unlink block slot) = IsShort (name_text block)

abbrev pub IsSmall : Option (FuncNo × RawEdit) → Type 0
IsSmall None = Unit {0}
IsSmall (Some entry) = IsSmallEdit entry.1
