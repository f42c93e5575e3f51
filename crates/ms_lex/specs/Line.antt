-- The tokens of a line. A place is a number of bytes from the line's beginning.
use Rattle.std.specs.Prelude.{◌≡◌, ◌≢◌, ◌<◌, ◌≤◌, ℕ, true, false, List, [], ◌∷◌, length, slice_index, slice_range, ◌⊎◌, Option, Some, None, Result, Ok, Err}
use Rattle.ms_lex.specs.Bytes.{is_separator}
use Rattle.ms_lex.specs.Kinds.{is_token}
use Rattle.ms_lex.specs.declared.token.TokenKind.{TokenKind}
use Rattle.ms_lex.specs.declared.token.Token.{Token}
use Rattle.ms_lex.specs.declared.fault.LexFault.{LexFault}
use Rattle.ms_lex.specs.declared.fault.LexFault.TheVariants.{Bad, Memory}

-- the first byte from a place on that is no separator, or the line's end
pub record IsNext (line : List ℕ) (from at : ℕ) : Type 0 where
  pub after : from ≤ at
  pub within : at ≤ length line
  pub gap : (k : ℕ) → from ≤ k → k < at → is_separator (slice_index line k) ≡ true
  pub stop : is_separator (slice_index line at) ≡ false

-- a place from which more bytes make no token than up to another
abbrev pub NoLonger : List ℕ → ℕ → ℕ → Type 0
NoLonger line from to = (kind : TokenKind) (later : ℕ) → to < later → later ≤ length line → is_token kind (slice_range line from later) ≡ false

-- a token's span lies in the line, and its bytes are one of its kind
pub record IsTokenOf (line : List ℕ) (token : Token) : Type 0 where
  pub some : token.from < token.to
  pub within : token.to ≤ length line
  pub bytes : is_token token.kind (slice_range line token.from token.to) ≡ true

-- the next token from a place on: only separators stand before it, its bytes are one of its kind, and it is the longest one at its place
pub record IsTokenAfter (line : List ℕ) (from : ℕ) (token : Token) : Type 0 where
  pub next : IsNext line from token.from
  pub within : token.to ≤ length line
  pub bytes : is_token token.kind (slice_range line token.from token.to) ≡ true
  pub longest : NoLonger line token.from token.to

-- from a place on only separators stand, up to the line's end or to a comment
pub record EndsAfter (line : List ℕ) (from : ℕ) : Type 0 where
  pub at : ℕ
  pub next : IsNext line from at
  pub end : (at ≡ length line) ⊎ (slice_index line at ≡ 59)

-- the next byte from a place on that is no separator begins no token and no comment
pub record IsBadAfter (line : List ℕ) (from at : ℕ) : Type 0 where
  pub next : IsNext line from at
  pub within : at < length line
  pub no_comment : slice_index line at ≢ 59
  pub no_token : NoLonger line at at

-- tokens that follow one another from a place on, and what holds of the place behind the last
abbrev pub Follow : List ℕ → (ℕ → Type 0) → ℕ → List Token → Type 0
Follow line Rest from [] = Rest from
Follow line Rest from (token ∷ tokens) = IsTokenAfter line from token × Follow line Rest token.to tokens

-- the tokens of a line
abbrev pub IsTokens : List ℕ → List Token → Type 0
IsTokens line tokens = Follow line (EndsAfter line) 0 tokens

-- the first byte of a line that begins no token
abbrev pub IsBad : List ℕ → ℕ → Type 0
IsBad line at = (tokens : List Token) × Follow line (λ from. IsBadAfter line from at) 0 tokens

-- what stands next from a place on
abbrev pub NextIs : List ℕ → ℕ → Result (Option Token) LexFault → Type 0
NextIs line from (Ok (Some token)) = IsTokenAfter line from token
NextIs line from (Ok None) = EndsAfter line from
NextIs line from (Err (Bad at)) = IsBadAfter line from at
NextIs line from (Err Memory) = ⊥

-- why a line has no tokens: its first bad byte, or want of memory
abbrev pub IsCause : List ℕ → LexFault → Type 0
IsCause line (Bad at) = IsBad line at
IsCause line Memory = Unit {0}
