-- Where a token ends: what stands behind it makes no longer token of it.
use Rattle.std.proofs.Common.{◌≡◌, ◌==◌, ◌||◌, ℕ, Bool, true, false, List, [], ◌∷◌, ◌++◌, Some, None, refl, subst, inl, inr, arith}
use Rattle.std.specs.List.{list_all}
use Rattle.std.specs.Char.{is_ascii_digit}
use Rattle.std.proofs.lemmas.Bool.{and_parts, and_from, and_left, and_right, or_cases, or_left, or_right, or_from, eqb-true, false_from_ne_true, both_ways, false≢true}
use Rattle.std.proofs.lemmas.Bool.Decides.{nat_tests}
use Rattle.ms_lex.specs.Bytes.{starts_word, continues_word, is_separator, is_mark, is_quotable}
use Rattle.ms_lex.specs.Kinds.{is_token, is_word, is_digits, is_name, is_number, is_quotation, opens}
use Rattle.ms_lex.specs.First.{first_kind}
use Rattle.ms_lex.specs.declared.token.TokenKind.{TokenKind}
use Rattle.ms_lex.specs.declared.token.TokenKind.TheVariants.{Word, Local, Global, Number, Quoted, Group, Meta, Punct}
use Rattle.ms_lex.proofs.First.{first_tells}

-- a separator or one of , : ( )
abbrev pub calm : ℕ → Bool
calm c = c == 32 || (c == 9 || (c == 13 || (c == 44 || (c == 58 || (c == 40 || c == 41)))))

-- nothing, or bytes of which the first lengthens no token but a string
abbrev pub Calm : List ℕ → Type 0
Calm [] = Unit {0}
Calm (c ∷ rest) = calm c ≡ true

-- what stands behind a token's bytes does not lengthen it
abbrev pub Ends : TokenKind → List ℕ → List ℕ → Type 0
Ends kind s [] = Unit {0}
Ends kind s (c ∷ rest) = is_token kind (s ++ c ∷ []) ≡ false

-- bytes that pass, up to one of them
run_front : (p : ℕ → Bool) (s : List ℕ) (c : ℕ) (m : List ℕ) → list_all p (s ++ c ∷ m) ≡ true → list_all p (s ++ c ∷ []) ≡ true
run_front p [] c m h = and_from (p c) true (and_parts (p c) _ h).0 refl
run_front p (b ∷ bs) c m h = let both = and_parts (p b) _ h in and_from (p b) _ both.0 (run_front p bs c m both.1)

opens_front : (first p : ℕ → Bool) (s : List ℕ) (c : ℕ) (m : List ℕ) → opens first p (s ++ c ∷ m) ≡ true → opens first p (s ++ c ∷ []) ≡ true
opens_front first p [] c m h = and_from (first c) true (and_parts (first c) _ h).0 refl
opens_front first p (b ∷ bs) c m h = let both = and_parts (first b) _ h in and_from (first b) _ both.0 (run_front p bs c m both.1)

name_front : (s : List ℕ) (c : ℕ) (m : List ℕ) → is_name (s ++ c ∷ m) ≡ true → is_name (s ++ c ∷ []) ≡ true
name_front s c m h =
    elim (or_cases (is_word (s ++ c ∷ m)) _ h) [
      | inl word ↦ or_left _ _ (opens_front starts_word continues_word s c m word)
      | inr digits ↦ or_right _ _ (opens_front is_ascii_digit is_ascii_digit s c m digits)
    ]

-- a quotation goes on behind no quote
quotation_over : (s : List ℕ) (c : ℕ) (m : List ℕ) → is_quotation s ≡ true → is_quotation (s ++ c ∷ m) ≡ false
quotation_over [] c m h = absurd (false≢true h)
quotation_over (b ∷ []) c m h = rw (eqb-true b 34 h) refl
quotation_over (b ∷ (d ∷ bs)) c m h = and_right (is_quotable b) _ (quotation_over (d ∷ bs) c m (and_parts (is_quotable b) _ h).1)

-- where a token with more behind it is one, it is one with the first byte of that
front : (kind : TokenKind) (b : ℕ) (s : List ℕ) (c : ℕ) (m : List ℕ) → is_token kind (b ∷ s) ≡ true → is_token kind (b ∷ s ++ c ∷ m) ≡ true → is_token kind (b ∷ s ++ c ∷ []) ≡ true
front Word b s c m token h = opens_front starts_word continues_word (b ∷ s) c m h
front Local b s c m token h = let both = and_parts (b == 37) _ h in and_from (b == 37) _ both.0 (name_front s c m both.1)
front Global b s c m token h = let both = and_parts (b == 64) _ h in and_from (b == 64) _ both.0 (opens_front starts_word continues_word s c m both.1)
front Number b s c m token h =
    elim (or_cases (is_digits (b ∷ s ++ c ∷ m)) _ h) [
      | inl digits ↦ or_left _ _ (opens_front is_ascii_digit is_ascii_digit (b ∷ s) c m digits)
      | inr negative ↦
          let both = and_parts (b == 45) _ negative in
          or_right _ _ (and_from (b == 45) _ both.0 (opens_front is_ascii_digit is_ascii_digit s c m both.1))
    ]
front Quoted b s c m token h = absurd (both_ways _ (quotation_over s c m (and_parts (b == 34) _ token).1) (and_parts (b == 34) _ h).1)
front Group b s c m token h = let both = and_parts (b == 35) _ h in and_from (b == 35) _ both.0 (opens_front is_ascii_digit is_ascii_digit s c m both.1)
front Meta b s c m token h = let both = and_parts (b == 33) _ h in and_from (b == 33) _ both.0 (run_front continues_word s c m both.1)
front Punct b [] c m token h = absurd (false≢true h)
front Punct b (d ∷ s) c m token h = absurd (false≢true token)

-- a token that the next byte does not lengthen is no longer token with more
pub no_longer : (kind other : TokenKind) (s : List ℕ) (c : ℕ) (m : List ℕ) → is_token kind s ≡ true → is_token kind (s ++ c ∷ []) ≡ false → is_token other (s ++ c ∷ m) ≡ false
no_longer kind other [] c m token ends = absurd (no_token kind token)
  where
    no_token : (kind : TokenKind) → is_token kind [] ≡ true → ⊥
    no_token Word h = false≢true h
    no_token Local h = false≢true h
    no_token Global h = false≢true h
    no_token Number h = false≢true h
    no_token Quoted h = false≢true h
    no_token Group h = false≢true h
    no_token Meta h = false≢true h
    no_token Punct h = false≢true h
no_longer kind other (b ∷ s) c m token ends =
    false_from_ne_true _ (λ longer.
    let one : first_kind b ≡ Some kind = first_tells kind b s token in
    let two : first_kind b ≡ Some other = first_tells other b (s ++ c ∷ m) longer in
    let same : other ≡ kind = cc in
    both_ways _ ends (front kind b s c m token (subst (λ k. is_token k (b ∷ s ++ c ∷ m) ≡ true) same longer)))

calm_no_word : (c : ℕ) → calm c ≡ true → continues_word c ≡ false
calm_no_word c h = grind (arith, nat_tests)

calm_no_digit : (c : ℕ) → calm c ≡ true → is_ascii_digit c ≡ false
calm_no_digit c h = grind (arith, nat_tests)

-- one that does not pass
run_stop : (p : ℕ → Bool) (s : List ℕ) (c : ℕ) → p c ≡ false → list_all p (s ++ c ∷ []) ≡ false
run_stop p [] c h = and_left (p c) _ h
run_stop p (b ∷ bs) c h = and_right (p b) _ (run_stop p bs c h)

opens_stop : (first p : ℕ → Bool) (s : List ℕ) (c : ℕ) → p c ≡ false → opens first p s ≡ true → opens first p (s ++ c ∷ []) ≡ false
opens_stop first p [] c h token = absurd (false≢true token)
opens_stop first p (b ∷ bs) c h token = and_right (first b) _ (run_stop p bs c h)

-- the same of bytes of which one more is there
opens_stop_behind : (first p : ℕ → Bool) (b : ℕ) (s : List ℕ) (c : ℕ) → p c ≡ false → opens first p (b ∷ s ++ c ∷ []) ≡ false
opens_stop_behind first p b s c h = and_right (first b) _ (run_stop p s c h)

name_stop : (s : List ℕ) (c : ℕ) → calm c ≡ true → is_name s ≡ true → is_name (s ++ c ∷ []) ≡ false
name_stop [] c h token = absurd (false≢true token)
name_stop (b ∷ bs) c h token =
    or_from _ _ (opens_stop_behind starts_word continues_word b bs c (calm_no_word c h)) (opens_stop_behind is_ascii_digit is_ascii_digit b bs c (calm_no_digit c h))

number_stop : (b : ℕ) (s : List ℕ) (c : ℕ) → calm c ≡ true → is_number (b ∷ s) ≡ true → is_number (b ∷ s ++ c ∷ []) ≡ false
number_stop b s c h token =
    or_from _ _ (opens_stop_behind is_ascii_digit is_ascii_digit b s c (calm_no_digit c h))
    (elim (or_cases (is_digits (b ∷ s)) _ token) [
      | inl digits ↦ and_left (b == 45) _ (no_minus b (and_parts (is_ascii_digit b) _ digits).0)
      | inr negative ↦ and_right (b == 45) _ (opens_stop is_ascii_digit is_ascii_digit s c (calm_no_digit c h) (and_parts (b == 45) _ negative).1)
    ])
  where
    no_minus : (b : ℕ) → is_ascii_digit b ≡ true → (b == 45) ≡ false
    no_minus b digit = grind (arith, nat_tests)

-- a calm byte lengthens no token
calm_stop : (kind : TokenKind) (b : ℕ) (s : List ℕ) (c : ℕ) → calm c ≡ true → is_token kind (b ∷ s) ≡ true → is_token kind (b ∷ s ++ c ∷ []) ≡ false
calm_stop Word b s c h token = opens_stop_behind starts_word continues_word b s c (calm_no_word c h)
calm_stop Local b s c h token = and_right (b == 37) _ (name_stop s c h (and_parts (b == 37) _ token).1)
calm_stop Global b s c h token = and_right (b == 64) _ (opens_stop starts_word continues_word s c (calm_no_word c h) (and_parts (b == 64) _ token).1)
calm_stop Number b s c h token = number_stop b s c h token
calm_stop Quoted b s c h token = and_right (b == 34) _ (quotation_over s c [] (and_parts (b == 34) _ token).1)
calm_stop Group b s c h token = and_right (b == 35) _ (opens_stop is_ascii_digit is_ascii_digit s c (calm_no_digit c h) (and_parts (b == 35) _ token).1)
calm_stop Meta b s c h token = and_right (b == 33) _ (run_stop continues_word s c (calm_no_word c h))
calm_stop Punct b [] c h token = refl
calm_stop Punct b (d ∷ s) c h token = absurd (false≢true token)

-- no separator begins a token
separator_no_kind : (b : ℕ) → is_separator b ≡ true → first_kind b ≡ None
unfolding is_mark
separator_no_kind b h =
    elim (or_cases (b == 32) _ h) [
      | inl blank ↦ rw (eqb-true b 32 blank) refl
      | inr other ↦ elim (or_cases (b == 9) _ other) [
        | inl tab ↦ rw (eqb-true b 9 tab) refl
        | inr return ↦ rw (eqb-true b 13 return) refl
      ]
    ]

pub token_no_separator : (kind : TokenKind) (b : ℕ) (s : List ℕ) → is_token kind (b ∷ s) ≡ true → is_separator b ≡ false
token_no_separator kind b s token =
    false_from_ne_true _ (λ h. let one = separator_no_kind b h in let two = first_tells kind b s token in cc)

pub ends_calm : (kind : TokenKind) (b : ℕ) (s rest : List ℕ) → is_token kind (b ∷ s) ≡ true → Calm rest → Ends kind (b ∷ s) rest
ends_calm kind b s [] token h = tt
ends_calm kind b s (c ∷ rest) token h = calm_stop kind b s c h token

-- a mark is a token of one byte, whatever stands behind it
pub ends_mark : (b : ℕ) (rest : List ℕ) → Ends Punct (b ∷ []) rest
ends_mark b [] = tt
ends_mark b (c ∷ rest) = refl
