-- The longest front of some bytes that passes a test.
use Rattle.std.specs.Prelude.{◌≡◌, ◌<◌, ◌≤◌, ℕ, Bool, true, false, List, length, take, Option, Some, None}
use Rattle.ms_lex.specs.Kinds.{is_token}
use Rattle.ms_lex.specs.declared.token.TokenKind.{TokenKind}

-- the first n bytes pass, and no more than those do
pub record IsLongest (test : List ℕ → Bool) (bytes : List ℕ) (n : ℕ) : Type 0 where
  pub within : n ≤ length bytes
  pub passes : test (take n bytes) ≡ true
  pub longest : (m : ℕ) → n < m → m ≤ length bytes → test (take m bytes) ≡ false

-- no front passes
pub record NoFront (test : List ℕ → Bool) (bytes : List ℕ) : Type 0 where
  pub none : (m : ℕ) → test (take m bytes) ≡ false

-- how long the longest front is that passes, if one does
abbrev pub FrontIs : (List ℕ → Bool) → List ℕ → Option ℕ → Type 0
FrontIs test bytes None = NoFront test bytes
FrontIs test bytes (Some n) = IsLongest test bytes n

-- the first n bytes are a token of the kind, and no more than those are a token of any kind
pub record Begins (bytes : List ℕ) (kind : TokenKind) (n : ℕ) : Type 0 where
  pub within : n ≤ length bytes
  pub passes : is_token kind (take n bytes) ≡ true
  pub longest : (other : TokenKind) (m : ℕ) → n < m → m ≤ length bytes → is_token other (take m bytes) ≡ false

-- what token stands in front, if any
abbrev pub TokenIs : List ℕ → Option (TokenKind × ℕ) → Type 0
TokenIs bytes None = (kind : TokenKind) → NoFront (is_token kind) bytes
TokenIs bytes (Some token) = Begins bytes token.0 token.1
