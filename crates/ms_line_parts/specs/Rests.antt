-- Whole rests of lines that are kept, as tests.
use Rattle.std.specs.Prelude.{◌≡◌, ◌≢◌, ◌⊎◌, ◌≤◌, ◌++◌, length, take, drop, nat_lt, ℕ, ◌+◌, ◌==◌, Bool, true, false, ◌&&◌, ◌||◌, List, [], ◌∷◌, Option, Some, None, if◌then◌else◌}
use Rattle.std.specs.Str.{bytes_eq}
use Rattle.ms_lex.specs.Kinds.{is_word, is_number, is_token}
use Rattle.ms_lex.specs.declared.token.TokenKind.TheVariants.{Local, Quoted, Meta}
use Rattle.ms_grammar.specs.Words.{spelling}
use Rattle.ms_grammar.specs.Kept.{behind_tokens, AreMany, IsAttribute, IsBalanced}
use Rattle.ms_grammar.specs.declared.keyword.Keyword.TheVariants as word
use Rattle.ms_line_parts.specs.Reach.{bracketed}

-- whether no bracket is open
abbrev pub is_closed : Option (List (List ℕ)) → Bool
is_closed None = false
is_closed (Some []) = true
is_closed (Some (c ∷ opened)) = false

abbrev pub balanced : List (List ℕ) → Bool
balanced ts = is_closed (behind_tokens (Some []) ts)

-- how many tokens the item in front has that may stand behind an instruction
abbrev pub behind_comma : List ℕ → List ℕ → List (List ℕ) → ℕ
behind_comma s t ts =
    if bytes_eq s (spelling word.Align) && is_number t then 3
    else (if is_token Meta s && is_token Meta t then 3 + bracketed (spelling word.OpenBrace) (spelling word.CloseBrace) ts
    else 0)

abbrev pub tail_length : List (List ℕ) → ℕ
tail_length [] = 0
tail_length (c ∷ []) = 0
tail_length (c ∷ (s ∷ [])) = 0
tail_length (c ∷ (s ∷ (t ∷ ts))) = if bytes_eq c (spelling word.Comma) then behind_comma s t ts else 0

-- a line that says nothing of memory
abbrev pub source_line : List (List ℕ) → Bool
source_line (a ∷ (b ∷ (c ∷ []))) = bytes_eq a (spelling word.SourceFilename) && (bytes_eq b (spelling word.Equals) && is_token Quoted c)
source_line _ = false

abbrev pub target_line : List (List ℕ) → Bool
target_line (a ∷ (b ∷ (c ∷ (d ∷ [])))) = bytes_eq a (spelling word.Target) && (is_word b && (bytes_eq c (spelling word.Equals) && is_token Quoted d))
target_line _ = false

abbrev pub starts_with : ℕ → List ℕ → Bool
starts_with first [] = false
starts_with first (b ∷ bs) = b == first

abbrev pub comdat_line : List (List ℕ) → Bool
comdat_line (a ∷ (b ∷ (c ∷ (d ∷ [])))) =
    starts_with 36 a && (is_word a && (bytes_eq b (spelling word.Equals) && (bytes_eq c (spelling word.Comdat) && is_word d)))
comdat_line _ = false

abbrev pub metadata_line : List (List ℕ) → Bool
metadata_line (a ∷ (b ∷ ts)) = is_token Meta a && (bytes_eq b (spelling word.Equals) && balanced ts)
metadata_line _ = false

abbrev pub named_line : List (List ℕ) → Bool
named_line (a ∷ (b ∷ (c ∷ ts))) = is_token Local a && (bytes_eq b (spelling word.Equals) && (bytes_eq c (spelling word.TypeOf) && balanced ts))
named_line _ = false

abbrev pub kept_line : List (List ℕ) → Bool
kept_line ts = source_line ts || (target_line ts || (comdat_line ts || (metadata_line ts || named_line ts)))

-- a group's line but for its name
abbrev pub is_whole : ℕ → ℕ → Bool
is_whole count n = nat_lt 0 n && (n == count)

abbrev pub group_shape : List (List ℕ) → Bool
group_shape (a ∷ (b ∷ (c ∷ ts))) =
    bytes_eq a (spelling word.Attributes)
    && (bytes_eq c (spelling word.Equals) && is_whole (length ts) (bracketed (spelling word.OpenBrace) (spelling word.CloseBrace) ts))
group_shape _ = false

-- where the word stands that says of a global variable whether it may change: behind attributes, and not later than any such place
abbrev pub IsGlobalKind : List ℕ → Type 0
IsGlobalKind t = (t ≡ spelling word.Global) ⊎ (t ≡ spelling word.Constant)

pub record IsReached (before : List (List ℕ)) (found : Option ℕ) : Type 0 where
  pub place : ℕ
  pub is : found ≡ Some place
  pub within : place ≤ length before
  pub left : AreMany IsAttribute (drop place before)

abbrev pub IsPlace : List (List ℕ) → Option ℕ → Type 0
IsPlace ts None = Unit {0}
IsPlace ts (Some at) = AreMany IsAttribute (take at ts) × ((kind : List ℕ) × (rest : List (List ℕ)) × (drop at ts ≡ kind ∷ rest) × IsGlobalKind kind)

pub record IsKindPlace (ts : List (List ℕ)) (found : Option ℕ) : Type 0 where
  pub place : IsPlace ts found
  pub first : (before : List (List ℕ)) (kind : List ℕ) (rest : List (List ℕ)) → ts ≡ before ++ kind ∷ rest → AreMany IsAttribute before → IsGlobalKind kind → IsReached before found

-- what stands behind the equals sign of a global variable
pub record IsVariable (ts : List (List ℕ)) : Type 0 where
  pub before : List (List ℕ)
  pub kind : List ℕ
  pub more : List (List ℕ)
  pub attributes : AreMany IsAttribute before
  pub kind_is : IsGlobalKind kind
  pub some : more ≢ []
  pub balanced : IsBalanced more
  pub tokens : ts ≡ before ++ kind ∷ more

abbrev pub global_head : List (List ℕ) → Bool
global_head (a ∷ (b ∷ ts)) = starts_with 64 a && bytes_eq b (spelling word.Equals)
global_head _ = false
