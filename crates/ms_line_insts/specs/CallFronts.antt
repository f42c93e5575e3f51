-- Calls in front of tokens, up to their attributes.
use Rattle.std.specs.Prelude.{◌≡◌, ℕ, map, Option, List, [], ◌∷◌, ◌++◌, All}
use Rattle.ms_lex.specs.Line.{IsTokenOf}
use Rattle.ms_lex.specs.declared.token.Token.{Token}
use Rattle.ms_ir.specs.declared.names.Ty.{Ty}
use Rattle.ms_grammar.specs.declared.keyword.Keyword.TheVariants as word
use Rattle.ms_grammar.specs.Parts.{Part, blank, token, count, kept, call_head, copy_head, bytes_at, result_word}
use Rattle.ms_grammar.specs.Form.{comma_parts, type_part, word_part, arg_parts, listed, call_front, end_parts, name_text}
use Rattle.ms_grammar.specs.Fits.{IsArg, IsOwnName, IsResult}
use Rattle.ms_grammar.specs.declared.line.RawArg.{RawArg}
use Rattle.ms_ir.specs.declared.names.Name.{Name}
use Rattle.ms_ir.specs.declared.names.Ty.TheVariants.{I1, I64, Ptr}
use Rattle.ms_grammar.specs.Scan.{IsListMark}
use Rattle.ms_grammar.specs.Kept.{Each}
use Rattle.ms_line_insts.specs.Front.{Spelt}
use Rattle.ms_line_insts.specs.ListFronts.{behind_comma}

-- tokens that begin with a list's mark
pub record StartsMark (line : List ℕ) (rest : List Token) : Type 0 where
  pub mark : Token
  pub more : List Token
  pub whole : rest ≡ mark ∷ more
  pub is_mark : IsListMark (bytes_at line mark)

abbrev pub BeginsMark : List ℕ → List Part → Type 0
BeginsMark line ps = (rest : List Token) → Spelt line rest ps → StartsMark line rest

-- an argument that is a pointer
abbrev pub IsPointerArg : RawArg → Type 0
IsPointerArg a = (a.ty ≡ Ptr) × IsArg a

-- all arguments, up to the closing parenthesis
abbrev pub closed_args : List RawArg → List Part
closed_args args = listed (map arg_parts args) ++ word_part word.Close ∷ []

abbrev pub EndsClosed : List Part → Type 0
EndsClosed ps = (qs : List Part) × (ps ≡ word_part word.Close ∷ qs)

-- a call up to the opening parenthesis of its arguments: what it gives, its kept text and its callee
abbrev pub IsCallStart : Option Ty × List ℕ × Name → Type 0
IsCallStart c = IsOwnName c.2 × IsResult c.0

abbrev pub call_start_parts : Option Ty × List ℕ × Name → List Part
call_start_parts c = call_front (call_head c.0) c.1 c.2

-- a memcpy up to the opening parenthesis of its arguments
abbrev pub copy_start_parts : List ℕ → List Part
copy_start_parts head = kept copy_head head ∷ blank ∷ word_part word.Memcpy ∷ word_part word.Open ∷ []

-- the word of what a function gives comes first
pub record NamesResult (line : List ℕ) (tokens : List Token) (ret : Option Ty) (rest : List Token) : Type 0 where
  pub word_token : Token
  pub whole : tokens ≡ word_token ∷ rest
  pub bytes : bytes_at line word_token ≡ result_word ret
  pub owned : All (IsTokenOf line) rest

abbrev pub NoResult : List ℕ → List Token → Type 0
NoResult line tokens = (t : Token) (more : List Token) (ret : Option Ty) → tokens ≡ t ∷ more → bytes_at line t ≡ result_word ret → ⊥

-- the name of a callee
abbrev pub callee_parts : Name → List Part
callee_parts n = token (64 ∷ name_text n) ∷ []

-- the length of a memcpy, and what is behind it up to the closing parenthesis
abbrev pub length_parts : ℕ → List Part
length_parts n = comma_parts ++ type_part I64 ∷ blank ∷ count n ∷ []

abbrev pub copy_flag_parts : List Part
copy_flag_parts = comma_parts ++ type_part I1 ∷ blank ∷ word_part word.False ∷ word_part word.Close ∷ []

-- the arguments of a call and what is kept behind them
abbrev pub AreArgs : List RawArg × (List ℕ × List ℕ) → Type 0
AreArgs a = Each IsArg a.0

abbrev pub args_end_parts : List RawArg × (List ℕ × List ℕ) → List Part
args_end_parts a = closed_args a.0 ++ end_parts a.1.0 a.1.1

-- the pointers of a memcpy
abbrev pub ArePointers : RawArg × RawArg → Type 0
ArePointers p = IsPointerArg p.0 × IsPointerArg p.1

abbrev pub pointers_parts : RawArg × RawArg → List Part
pointers_parts p = arg_parts p.0 ++ behind_comma arg_parts p.1

abbrev pub IsCopyFront : List ℕ × (RawArg × RawArg) → Type 0
IsCopyFront c = ArePointers c.1

abbrev pub copy_front_parts : List ℕ × (RawArg × RawArg) → List Part
copy_front_parts c = copy_start_parts c.0 ++ pointers_parts c.1

-- the length of a memcpy and what is behind it
abbrev pub length_end_parts : ℕ × (List ℕ × List ℕ) → List Part
length_end_parts e = length_parts e.0 ++ copy_flag_parts ++ end_parts e.1.0 e.1.1
