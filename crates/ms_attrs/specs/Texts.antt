-- The tokens of a line, the bytes of each.
use Rattle.std.specs.Prelude.{◌≡◌, ℕ, List, [], map, slice_range}
use Rattle.ms_lex.specs.Line.{IsTokens, IsBad}
use Rattle.ms_lex.specs.declared.token.Token.{Token}

-- the bytes of a token
abbrev pub text_of : List ℕ → Token → List ℕ
text_of line token = slice_range line token.from token.to

abbrev pub texts_of : List ℕ → List Token → List (List ℕ)
texts_of line tokens = map (text_of line) tokens

-- the tokens of a line; a line with a byte that begins no token counts as one without tokens
pub data AreTexts (line : List ℕ) (texts : List (List ℕ)) : Type 0 where
  whole : (tokens : List Token) → IsTokens line tokens → texts ≡ texts_of line tokens → AreTexts line texts
  broken : (at : ℕ) → IsBad line at → texts ≡ [] → AreTexts line texts

-- a function that gives the tokens of each line
abbrev pub CutsLines : (List ℕ → List (List ℕ)) → Type 0
CutsLines cut = (line : List ℕ) → AreTexts line (cut line)
