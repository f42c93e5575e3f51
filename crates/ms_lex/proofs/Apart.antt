-- What stands next in a line is one thing.
use Rattle.std.proofs.Common.{◌≡◌, ◌<◌, ◌≤◌, ◌-◌, ℕ, suc, true, List, [], ◌∷◌, length, take, drop, get_or, slice_index, slice_range, Some, None, refl, sym, ap, subst, ◌∙◌, inl, inr, arith, drop-cons}
use Rattle.std.proofs.lemmas.Bool.{both_ways, cases_order}
use Rattle.ms_lex.specs.Bytes.{is_mark}
use Rattle.ms_lex.specs.Kinds.{is_token}
use Rattle.ms_lex.specs.First.{first_kind}
use Rattle.ms_lex.specs.Line.{IsNext, IsTokenAfter, EndsAfter, IsBadAfter, Follow}
use Rattle.ms_lex.specs.declared.token.Token.{Token}
use Rattle.ms_lex.specs.declared.token.TokenKind.{TokenKind}
use Rattle.ms_lex.proofs.First.{first_tells}
use Rattle.ms_lex.proofs.Follows.{token_grows}

-- the next byte that is no separator stands at one place
pub next_one : (line : List ℕ) (from a b : ℕ) → IsNext line from a → IsNext line from b → a ≡ b
next_one line from a b one other =
    elim (cases_order a b) [
      | inl same ↦ same
      | inr apart ↦ elim apart [
        | inl before ↦ absurd (both_ways _ one.stop (other.gap a one.after before))
        | inr behind ↦ absurd (both_ways _ other.stop (one.gap b other.after behind))
      ]
    ]

-- a token's first byte tells its kind
pub first_of_token : (line : List ℕ) (from to : ℕ) (kind : TokenKind) → from < to → to ≤ length line → is_token kind (slice_range line from to) ≡ true → first_kind (slice_index line from) ≡ Some kind
first_of_token line from to kind some within token =
    let more : to - from ≡ suc (to - from - 1) = omega arith in
    let here : from < length line = omega arith in
    first_tells kind (get_or line from 0) (take (to - from - 1) (drop (suc from) line)) (rw (more, drop-cons line from 0) at token)

-- the kind of the next token
kind_of : (line : List ℕ) (from : ℕ) (t : Token) → IsTokenAfter line from t → first_kind (slice_index line t.from) ≡ Some t.kind
kind_of line from t here = first_of_token line t.from t.to t.kind (token_grows line from t here) here.within here.bytes

-- no longer token begins where one does
not_longer : (line : List ℕ) (from : ℕ) (t u : Token) → IsTokenAfter line from t → IsTokenAfter line from u → t.from ≡ u.from → t.to < u.to → ⊥
not_longer line from t u one other same less =
    both_ways _ (one.longest u.kind u.to less other.within) (rw (sym same) at other.bytes)

token_of : TokenKind → ℕ → ℕ → Token
token_of kind from to = record { kind = kind; from = from; to = to }

-- tokens of one kind and span are one
same_token : (t u : Token) → t.kind ≡ u.kind → t.from ≡ u.from → t.to ≡ u.to → t ≡ u
unfolding token_of
same_token t u kind from to =
    ap (λ k. token_of k t.from t.to) kind ∙ (ap (λ place. token_of u.kind place t.to) from ∙ ap (token_of u.kind u.from) to)

-- there is one next token
pub token_one : (line : List ℕ) (from : ℕ) (t u : Token) → IsTokenAfter line from t → IsTokenAfter line from u → t ≡ u
token_one line from t u one other =
    let same : t.from ≡ u.from = next_one line from t.from u.from one.next other.next in
    let kinds : Some t.kind ≡ Some u.kind = sym (kind_of line from t one) ∙ (ap (λ place. first_kind (slice_index line place)) same ∙ kind_of line from u other) in
    let kind : t.kind ≡ u.kind = cc in
    same_token t u kind same (
    elim (cases_order t.to u.to) [
      | inl to ↦ to
      | inr apart ↦ elim apart [
        | inl less ↦ absurd (not_longer line from t u one other same less)
        | inr more ↦ absurd (not_longer line from u t other one (sym same) more)
      ]
    ]
    )

-- no comment begins a token
comment_is_none : first_kind 59 ≡ None
unfolding is_mark
comment_is_none = refl

-- where the line ends no token follows
pub end_no_token : (line : List ℕ) (from : ℕ) → EndsAfter line from → (t : Token) → IsTokenAfter line from t → ⊥
end_no_token line from end t here =
    let same : end.at ≡ t.from = next_one line from end.at t.from end.next here.next in
    let grows : t.from < t.to = token_grows line from t here in
    elim end.end [
      | inl at_end ↦ omega (arith, here.within)
      | inr comment ↦
          let byte : slice_index line t.from ≡ 59 = sym (ap (slice_index line) same) ∙ comment in
          let told : None ≡ Some t.kind = sym comment_is_none ∙ (ap first_kind (sym byte) ∙ kind_of line from t here) in
          cc
    ]

-- where a byte begins no token none follows
pub bad_no_token : (line : List ℕ) (at from : ℕ) → IsBadAfter line from at → (t : Token) → IsTokenAfter line from t → ⊥
bad_no_token line at from bad t here =
    let same : t.from ≡ at = next_one line from t.from at here.next bad.next in
    both_ways _ (bad.no_token t.kind t.to (omega (arith, token_grows line from t here)) here.within) (rw same at here.bytes)

-- where the line ends no byte begins no token
pub end_not_bad : (line : List ℕ) (from at : ℕ) → EndsAfter line from → IsBadAfter line from at → ⊥
end_not_bad line from at end bad =
    let same : end.at ≡ at = next_one line from end.at at end.next bad.next in
    elim end.end [
      | inl at_end ↦ omega (arith, bad.within)
      | inr comment ↦ bad.no_comment (sym (ap (slice_index line) same) ∙ comment)
    ]

-- two readings of a line have the same tokens, and end at one place
pub record SameReading (E F : ℕ → Type 0) (ts us : List Token) : Type 0 where
  pub tokens : ts ≡ us
  pub place : ℕ
  pub one : E place
  pub other : F place

-- what follows a place is one thing where no token follows the last
pub follow_one : (line : List ℕ) (E F : ℕ → Type 0) → ((from : ℕ) → E from → (t : Token) → IsTokenAfter line from t → ⊥) → ((from : ℕ) → F from → (t : Token) → IsTokenAfter line from t → ⊥)
    → (ts us : List Token) (from : ℕ) → Follow line E from ts → Follow line F from us → SameReading E F ts us
follow_one line E F last_one last_other [] [] from one other = record { tokens = refl; place = from; one = one; other = other }
follow_one line E F last_one last_other [] (u ∷ us) from one other = absurd (last_one from one u other.0)
follow_one line E F last_one last_other (t ∷ ts) [] from one other = absurd (last_other from other t one.0)
follow_one line E F last_one last_other (t ∷ ts) (u ∷ us) from one other =
    let same : t ≡ u = token_one line from t u one.0 other.0 in
    let rest : SameReading E F ts us = follow_one line E F last_one last_other ts us t.to one.1 (subst (λ (v : Token). Follow line F v.to us) (sym same) other.1) in
    let behind : ts ≡ us = rest.tokens in
    record { tokens = cc; place = rest.place; one = rest.one; other = rest.other }
