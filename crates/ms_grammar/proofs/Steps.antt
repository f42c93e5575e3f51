-- Texts that are equal, and tokens of one text.
use Rattle.std.proofs.Common.{◌≡◌, ◌≢◌, ◌⊎◌, ℕ, Bool, true, false, List, [], ◌∷◌, ◌++◌, refl, sym, inl, inr}
use Rattle.std.specs.Str.{bytes_eq}
use Rattle.std.specs.Cmp.Lexicographic.{same_text, other_text}
use Rattle.ms_lex.specs.declared.token.Token.{Token}
use Rattle.ms_grammar.specs.Parts.{texts, bytes_at}

tell : (s t : List ℕ) (b : Bool) → bytes_eq s t ≡ b → ((bytes_eq s t ≡ true) × (s ≡ t)) ⊎ ((bytes_eq s t ≡ false) × (s ≢ t))
tell s t true e = inl (e, same_text s t (sym e))
tell s t false e = inr (e, other_text s t (sym e))

-- texts are equal or not, as the test tells
pub tells : (s t : List ℕ) → ((bytes_eq s t ≡ true) × (s ≡ t)) ⊎ ((bytes_eq s t ≡ false) × (s ≢ t))
tells s t = tell s t (bytes_eq s t) refl

pub same : (s t : List ℕ) → s ≡ t → bytes_eq s t ≡ true
same s t e = elim (tells s t) [ inl told ↦ told.0 | inr told ↦ absurd (told.1 e) ]

-- tokens of one text are one token
pub record IsOne (line : List ℕ) (tokens rest : List Token) (text : List ℕ) : Type 0 where
  pub first : Token
  pub whole : tokens ≡ first ∷ rest
  pub bytes : bytes_at line first ≡ text

pub one_of : (line : List ℕ) (tokens run rest : List Token) (text : List ℕ) → tokens ≡ run ++ rest → texts line run ≡ text ∷ [] → IsOne line tokens rest text
one_of line tokens [] rest text whole e = absurd (cc)
one_of line tokens (t ∷ []) rest text whole e = record { first = t; whole = whole; bytes = cc }
one_of line tokens (t ∷ (u ∷ us)) rest text whole e = absurd (cc)
