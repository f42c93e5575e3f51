-- Tokens that follow one another.
use Rattle.std.proofs.Common.{◌≡◌, ◌<◌, ◌-◌, ℕ, List, [], ◌∷◌, ◌++◌, refl, sym, subst, ◌∙◌, inl, inr, arith}
use Rattle.std.specs.List.{All}
use Rattle.std.proofs.lemmas.List.Elements.{All-nil, All-cons}
use Rattle.std.proofs.lemmas.Bool.{false≢true, cases_lt}
use Rattle.ms_lex.specs.Line.{IsTokenOf, IsTokenAfter, Follow}
use Rattle.ms_lex.specs.declared.token.Token.{Token}
use Rattle.ms_lex.proofs.First.{some_bytes}

-- a token has a byte
pub token_grows : (line : List ℕ) (from : ℕ) (token : Token) → IsTokenAfter line from token → token.from < token.to
token_grows line from token here =
    elim (cases_lt token.from token.to) [
      | inl less ↦ less
      | inr more ↦
          let none : token.to - token.from ≡ 0 = omega arith in
          absurd (false≢true (sym (some_bytes token.kind) ∙ rw none at here.bytes))
    ]

-- one token more
pub follow_push : (line : List ℕ) (start from : ℕ) (tokens : List Token) (token : Token) → Follow line (λ place. place ≡ from) start tokens
    → IsTokenAfter line from token → Follow line (λ place. place ≡ token.to) start (tokens ++ token ∷ [])
follow_push line start from [] token follow here = (subst (λ place. IsTokenAfter line place token) (sym follow) here, refl)
follow_push line start from (first ∷ tokens) token follow here = (follow.0, follow_push line first.to from tokens token follow.1 here)

-- what holds of the place behind the last
pub follow_end : (line : List ℕ) (Rest : ℕ → Type 0) (start from : ℕ) (tokens : List Token) → Follow line (λ place. place ≡ from) start tokens
    → Rest from → Follow line Rest start tokens
follow_end line Rest start from [] follow rest = subst Rest (sym follow) rest
follow_end line Rest start from (first ∷ tokens) follow rest = (follow.0, follow_end line Rest first.to from tokens follow.1 rest)

-- a token that follows, by itself
token_alone : (line : List ℕ) (from : ℕ) (token : Token) → IsTokenAfter line from token → IsTokenOf line token
token_alone line from token here = record { some = token_grows line from token here; within = here.within; bytes = here.bytes }

-- each token that follows, by itself
pub each_token : (line : List ℕ) (Rest : ℕ → Type 0) (from : ℕ) (tokens : List Token) → Follow line Rest from tokens → All (IsTokenOf line) tokens
each_token line Rest from [] follow = All-nil (IsTokenOf line)
each_token line Rest from (token ∷ tokens) follow =
    All-cons (IsTokenOf line) token tokens (token_alone line from token follow.0) (each_token line Rest token.to tokens follow.1)
