-- The grammar of lines.
use Rattle.std.specs.Prelude.{◌≡◌, ◌≢◌, ℕ, ◌<◌, ◌≤◌, ◌^◌, true, false, List, [], ◌∷◌, length, map}
use Rattle.ms_lex.specs.Kinds.{is_digits}
use Rattle.ms_lex.specs.Line.{IsTokens}
use Rattle.ms_lex.specs.declared.token.Token.{Token}
use Rattle.ms_lex.specs.declared.token.TokenKind.{TokenKind}
use Rattle.ms_lex.specs.declared.token.TokenKind.TheVariants as kind
use Rattle.ms_ir.specs.declared.names.Name.TheVariants.{Absent}
use Rattle.ms_ir.specs.declared.names.Param.{Param}
use Rattle.ms_grammar.specs.Numbers.{is_negative, magnitude}
use Rattle.ms_grammar.specs.Kept.{Each}
use Rattle.ms_grammar.specs.Parts.{Spells, bytes_at}
use Rattle.ms_grammar.specs.Form.{Scale, form}
use Rattle.ms_grammar.specs.Fits.{FitsLine}
use Rattle.ms_grammar.specs.declared.line.Line.{Line}
use Rattle.ms_grammar.specs.declared.line.Line.TheVariants as line

-- digits of a name: no zero in front of others, and at most nine
abbrev pub StartsPlain : List ℕ → Type 0
StartsPlain [] = Unit {0}
StartsPlain (b ∷ []) = Unit {0}
StartsPlain (b ∷ (c ∷ bs)) = b ≢ 48

abbrev pub IsPlainNumber : List ℕ → Type 0
IsPlainNumber s = is_digits s ≡ true → StartsPlain s × (length s ≤ 9)

-- a number from -2^127 to 2^128 - 1
abbrev pub IsReadable : List ℕ → Type 0
IsReadable s = (is_negative s ≡ true → magnitude s ≤ 2 ^ 127) × (is_negative s ≡ false → magnitude s < 2 ^ 128)

-- a token whose digits are those of a name of the language, or a number that is not too far from 0
abbrev pub behind_mark : List ℕ → List ℕ
behind_mark [] = []
behind_mark (b ∷ bs) = bs

abbrev pub IsReadableToken : TokenKind → List ℕ → Type 0
IsReadableToken kind.Local s = IsPlainNumber (behind_mark s)
IsReadableToken kind.Group s = IsPlainNumber (behind_mark s)
IsReadableToken kind.Number s = IsReadable s
IsReadableToken _ s = Unit {0}

-- a line with these tokens says this, the parameters of a declared function with the names that are written there
pub record Says (bytes : List ℕ) (written : Line) : Type 0 where
  pub tokens : List Token
  pub scale : Scale
  pub are_tokens : IsTokens bytes tokens
  pub readable : Each (λ t. IsReadableToken t.kind (bytes_at bytes t)) tokens
  pub spelled : Spells bytes tokens (form scale written)
  pub fits : FitsLine scale written

-- what is kept of a line: the parameters of a declared function lose their names
abbrev pub without_name : Param → Param
without_name p = record p { name = Absent }

abbrev pub kept_of : Line → Line
kept_of (line.Declare head) = line.Declare (record head { params = map without_name head.params })
kept_of (line.Empty) = line.Empty
kept_of (line.Close) = line.Close
kept_of (line.Kept text) = line.Kept text
kept_of (line.Group n text) = line.Group n text
kept_of (line.GlobalVar name text) = line.GlobalVar name text
kept_of (line.Label n) = line.Label n
kept_of (line.Define head) = line.Define head
kept_of (line.Inst n inst) = line.Inst n inst
kept_of (line.Term term) = line.Term term
