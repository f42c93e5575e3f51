-- How far tokens in brackets reach, and how far attributes.
use Rattle.std.specs.Prelude.{◌≡◌, ℕ, ◌+◌, ◌==◌, suc, Bool, true, false, ◌&&◌, List, [], ◌∷◌, Option, Some, None, if◌then◌else◌, map, drop, option_map, reverse}
use Rattle.std.specs.Str.{bytes_eq}
use Rattle.ms_lex.specs.Kinds.{is_number, is_token}
use Rattle.ms_lex.specs.declared.token.TokenKind.TheVariants.{Quoted, Group, Meta}
use Rattle.ms_grammar.specs.Words.{spelling}
use Rattle.ms_grammar.specs.Kept.{behind_token, IsAttribute, IsPostItem}
use Rattle.ms_grammar.specs.Scan.{is_free}
use Rattle.ms_grammar.specs.declared.keyword.Keyword.{Keyword}
use Rattle.ms_grammar.specs.declared.keyword.Keyword.TheVariants as word

-- the marks that close what is open, the last one first, of those that were put on one by one
abbrev pub open_marks : List Keyword → List (List ℕ)
open_marks marks = map spelling (reverse marks)

-- whether a token closes the bracket in front, of those that are open behind it
abbrev pub ends : List ℕ → List (List ℕ) → List ℕ → Bool
ends mark [] t = bytes_eq t mark
ends mark (c ∷ opened) t = false

-- how many tokens stand before the mark that closes the bracket in front of them
abbrev pub inner_of : List ℕ → Option (List (List ℕ)) → List (List ℕ) → Option ℕ
inner_of mark None ts = None
inner_of mark (Some opened) [] = None
inner_of mark (Some opened) (t ∷ ts) = if ends mark opened t then Some 0 else option_map suc (inner_of mark (behind_token opened t) ts)

-- how many tokens stand in brackets in front, with the brackets
abbrev pub with_marks : Option ℕ → ℕ
with_marks None = 0
with_marks (Some n) = n + 2

abbrev pub bracketed : List ℕ → List ℕ → List (List ℕ) → ℕ
bracketed first close [] = 0
bracketed first close (t ∷ ts) = if bytes_eq t first then with_marks (inner_of close (Some []) ts) else 0

-- so many tokens more
abbrev pub further_on : ℕ → Option ℕ → Option ℕ
further_on n o = option_map (λ k. n + k) o

-- an attribute, or what may stand among attributes where metadata may
abbrev pub IsItem : Bool → List (List ℕ) → Type 0
IsItem true = IsPostItem
IsItem false = IsAttribute

-- how many tokens join the one before them: a number the word align, tokens in parentheses a word, an
-- equals sign and a string a string, a metadata token another one
abbrev pub number_joins : Bool → List (List ℕ) → ℕ
number_joins aligned [] = 0
number_joins aligned (t ∷ ts) = if aligned && is_number t then 1 else 0

abbrev pub some_or : ℕ → ℕ → ℕ
some_or n m = if n == 0 then m else n

abbrev pub word_joins : Bool → List (List ℕ) → ℕ
word_joins aligned ts = some_or (bracketed (spelling word.Open) (spelling word.Close) ts) (number_joins aligned ts)

abbrev pub string_joins : List (List ℕ) → ℕ
string_joins [] = 0
string_joins (e ∷ []) = 0
string_joins (e ∷ (s ∷ ts)) = if bytes_eq e (spelling word.Equals) && is_token Quoted s then 2 else 0

abbrev pub meta_joins : List (List ℕ) → ℕ
meta_joins [] = 0
meta_joins (t ∷ ts) = if is_token Meta t then 2 else 0

-- how many tokens the longest item in front has
abbrev pub item_length : Bool → List (List ℕ) → ℕ
item_length metadata [] = 0
item_length metadata (t ∷ ts) =
    if is_free t then suc (word_joins (bytes_eq t (spelling word.Align)) ts)
    else (if is_token Quoted t then suc (string_joins ts)
    else (if is_token Group t then 1
    else (if metadata && is_token Meta t then meta_joins ts
    else 0)))

-- the longest items, one behind another, up to where none stands, and how many tokens they have
pub data AreLongest (metadata : Bool) : List (List ℕ) → ℕ → Type 0 where
  stop : (ts : List (List ℕ)) (n : ℕ) → item_length metadata ts ≡ 0 → n ≡ 0 → AreLongest metadata ts n
  more : (ts : List (List ℕ)) (n k m : ℕ) → item_length metadata ts ≡ suc k → n ≡ suc k + m → AreLongest metadata (drop (suc k) ts) m → AreLongest metadata ts n

-- how many of the tokens in front are the words that begin a call
abbrev pub call_behind : List (List ℕ) → ℕ
call_behind [] = 0
call_behind (t ∷ ts) = if bytes_eq t (spelling word.Call) then 2 else 0

abbrev pub call_mark_length : List (List ℕ) → ℕ
call_mark_length [] = 0
call_mark_length (t ∷ ts) =
    if bytes_eq t (spelling word.Call) then 1
    else (if bytes_eq t (spelling word.Tail) then call_behind ts
    else (if bytes_eq t (spelling word.NoTail) then call_behind ts
    else 0))
