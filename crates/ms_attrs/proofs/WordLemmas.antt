-- Which tokens are words.
use Rattle.std.proofs.Common.{◌≡◌, ℕ, true, false, List, [], ◌∷◌, refl}
use Rattle.std.proofs.lemmas.Bool.{false_from_ne_true}
use Rattle.ms_lex.specs.Kinds.{is_token, is_word}
use Rattle.ms_lex.specs.declared.token.TokenKind.{TokenKind}
use Rattle.ms_lex.specs.declared.token.TokenKind.TheVariants.{Word}
use Rattle.ms_lex.proofs.First.{first_tells}

-- a token of another kind is no word
pub no_word : (kind : TokenKind) (t : List ℕ) → is_token kind t ≡ true → (kind ≡ Word → ⊥) → is_word t ≡ false
no_word kind [] token other = refl
no_word kind (b ∷ bs) token other =
    false_from_ne_true _ (λ word. other (
    let by_word = first_tells Word b bs word in
    let by_kind = first_tells kind b bs token in
    cc
    ))
