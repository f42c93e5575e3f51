-- How far attributes reach: each token leads from what is open before it to what is open behind it.
use Rattle.std.specs.Prelude.{◌≡◌, ◌⊎◌, ℕ, Bool, true, false, ◌&&◌, List, [], ◌∷◌, Option, Some, None, if◌then◌else◌}
use Rattle.std.specs.List.{list_any}
use Rattle.std.specs.Str.{bytes_eq}
use Rattle.ms_lex.specs.Kinds.{is_word, is_number, is_token}
use Rattle.ms_lex.specs.declared.token.TokenKind.TheVariants.{Quoted, Group, Meta}
use Rattle.ms_grammar.specs.Words.{spelling}
use Rattle.ms_grammar.specs.Kept.{reserved, behind_token}
use Rattle.ms_grammar.specs.declared.keyword.Keyword.TheVariants as word

-- what the next token may join: nothing, a word, the word align, a string, a string with its equals
-- sign, a metadata token, or what is inside brackets
pub data Mode : Type 0 where
  free : Mode
  after_word : Mode
  after_align : Mode
  after_string : Mode
  after_equals : Mode
  after_meta : Mode
  inside : List (List ℕ) → Mode

-- where attributes may end
abbrev pub may_end : Mode → Bool
may_end free = true
may_end after_word = true
may_end after_align = true
may_end after_string = true
may_end after_equals = false
may_end after_meta = false
may_end (inside _) = false

abbrev pub is_free : List ℕ → Bool
is_free w = is_word w && (if list_any (bytes_eq w) reserved then false else true)

-- a token that begins an attribute; two metadata tokens are one where they may stand
abbrev pub begins : Bool → List ℕ → Option Mode
begins metadata s =
    if is_free s then (if bytes_eq s (spelling word.Align) then Some after_align else Some after_word)
    else (if is_token Quoted s then Some after_string
    else (if is_token Group s then Some free
    else (if metadata && is_token Meta s then Some after_meta
    else None)))

abbrev pub opens : List ℕ → Bool
opens s = bytes_eq s (spelling word.Open)

abbrev pub closes : Option (List (List ℕ)) → Option Mode
closes None = None
closes (Some []) = Some free
closes (Some (c ∷ opened)) = Some (inside (c ∷ opened))

abbrev pub step : Bool → Mode → List ℕ → Option Mode
step metadata free s = begins metadata s
step metadata after_word s = if opens s then Some (inside (spelling word.Close ∷ [])) else begins metadata s
step metadata after_align s =
    if opens s then Some (inside (spelling word.Close ∷ [])) else (if is_number s then Some free else begins metadata s)
step metadata after_string s = if bytes_eq s (spelling word.Equals) then Some after_equals else begins metadata s
step metadata after_equals s = if is_token Quoted s then Some free else None
step metadata after_meta s = if is_token Meta s then Some free else None
step metadata (inside opened) s = closes (behind_token opened s)

abbrev pub walk : Bool → Option Mode → List (List ℕ) → Option Mode
walk metadata None ts = None
walk metadata (Some mode) [] = Some mode
walk metadata (Some mode) (t ∷ ts) = walk metadata (step metadata mode t) ts

-- tokens with which attributes that stand before them cannot go on: none, or such as no attribute can take in
abbrev pub Stops : Bool → List (List ℕ) → Type 0
Stops metadata [] = Unit {0}
Stops metadata (t ∷ ts) = (mode : Mode) → may_end mode ≡ true → step metadata mode t ≡ None

-- a token that joins nothing but the word align, so that attributes may end behind it or cannot take it in
pub record Passes (t : List ℕ) : Type 0 where
  pub no_open : opens t ≡ false
  pub no_equals : bytes_eq t (spelling word.Equals) ≡ false

-- a token that is no mark of a list
pub record IsMember (v : List ℕ) : Type 0 where
  pub passes : Passes v
  pub no_comma : bytes_eq v (spelling word.Comma) ≡ false
  pub no_close : bytes_eq v (spelling word.Close) ≡ false

-- a mark behind a list's member
abbrev pub IsListMark : List ℕ → Type 0
IsListMark t = (t ≡ spelling word.Comma) ⊎ (t ≡ spelling word.Close)
