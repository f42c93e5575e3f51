-- The first byte of a token tells its kind.
use Rattle.std.proofs.Common.{◌≡◌, ◌==◌, ◌<◌, ℕ, zero, suc, true, false, List, [], ◌∷◌, length, take, get_or, Option, Some, None, refl, sym, ◌∙◌, subst, inl, inr, arith, nat_eq, codes}
use Rattle.std.specs.List.{list_any}
use Rattle.std.specs.Char.{is_ascii_digit}
use Rattle.std.proofs.lemmas.Bool.{and_parts, or_cases, eqb-true, false_from_ne_true, both_ways, false≢true}
use Rattle.std.proofs.lemmas.Bool.Decides.{nat_tests}
use Rattle.ms_lex.specs.Bytes.{starts_word, is_mark}
use Rattle.ms_lex.specs.Kinds.{is_token, is_digits}
use Rattle.ms_lex.specs.First.{first_kind}
use Rattle.ms_lex.specs.Front.{IsLongest, NoFront, Begins}
use Rattle.ms_lex.specs.declared.token.TokenKind.{TokenKind}
use Rattle.ms_lex.specs.declared.token.TokenKind.TheVariants.{Word, Local, Global, Number, Quoted, Group, Meta, Punct}

-- no digit starts a word
pub digit_no_word : (b : ℕ) → is_ascii_digit b ≡ true → starts_word b ≡ false
digit_no_word b digit = grind (arith, nat_tests)

-- what holds of each element
Each : (ℕ → Type 0) → List ℕ → Type 0
Each P [] = Unit {0}
Each P (x ∷ xs) = P x × Each P xs

-- what holds of each element holds of one that is among them
one_of : (P : ℕ → Type 0) (xs : List ℕ) (b : ℕ) → list_any (λ x. nat_eq x b) xs ≡ true → Each P xs → P b
unfolding Each
one_of P [] b among each = absurd (false≢true among)
one_of P (x ∷ xs) b among each =
    elim (or_cases (nat_eq x b) _ among) [ inl here ↦ subst P (eqb-true x b here) each.0 | inr there ↦ one_of P xs b there each.1 ]

-- a mark is the whole of its token
mark_kind : (b : ℕ) → is_mark b ≡ true → first_kind b ≡ Some Punct
unfolding is_mark Each
mark_kind b mark =
    one_of (λ x. first_kind x ≡ Some Punct) (codes "(){}[]<>,=:*+|") b mark
    (refl, (refl, (refl, (refl, (refl, (refl, (refl, (refl, (refl, (refl, (refl, (refl, (refl, (refl, tt))))))))))))))

-- a byte that a kind's tokens begin with
at_byte : (b c : ℕ) (kind : TokenKind) → (b == c) ≡ true → first_kind c ≡ Some kind → first_kind b ≡ Some kind
at_byte b c kind same told = subst (λ x. first_kind x ≡ Some kind) (sym (eqb-true b c same)) told

digit_kind : (b : ℕ) → is_ascii_digit b ≡ true → first_kind b ≡ Some Number
digit_kind b digit = rw (digit_no_word b digit, digit) refl

-- a token's first byte tells its kind
pub first_tells : (kind : TokenKind) (b : ℕ) (bs : List ℕ) → is_token kind (b ∷ bs) ≡ true → first_kind b ≡ Some kind
unfolding is_mark
first_tells Word b bs token = rw (and_parts (starts_word b) _ token).0 refl
first_tells Local b bs token = at_byte b 37 Local (and_parts (b == 37) _ token).0 refl
first_tells Global b bs token = at_byte b 64 Global (and_parts (b == 64) _ token).0 refl
first_tells Number b bs token =
    elim (or_cases (is_digits (b ∷ bs)) _ token) [
      | inl digits ↦ digit_kind b (and_parts (is_ascii_digit b) _ digits).0
      | inr negative ↦ at_byte b 45 Number (and_parts (b == 45) _ negative).0 refl
    ]
first_tells Quoted b bs token = at_byte b 34 Quoted (and_parts (b == 34) _ token).0 refl
first_tells Group b bs token = at_byte b 35 Group (and_parts (b == 35) _ token).0 refl
first_tells Meta b bs token = at_byte b 33 Meta (and_parts (b == 33) _ token).0 refl
first_tells Punct b [] token = mark_kind b token
first_tells Punct b (c ∷ bs) token = absurd (false≢true token)

-- no token is empty
pub some_bytes : (kind : TokenKind) → is_token kind [] ≡ false
some_bytes Word = refl
some_bytes Local = refl
some_bytes Global = refl
some_bytes Number = refl
some_bytes Quoted = refl
some_bytes Group = refl
some_bytes Meta = refl
some_bytes Punct = refl

-- only tokens of the kind that the first byte tells begin there
pub other_kind : (b : ℕ) (bs : List ℕ) (told : Option TokenKind) → first_kind b ≡ told → (kind : TokenKind) (m : ℕ) → (told ≡ Some kind → is_token kind (take m (b ∷ bs)) ≡ false) → is_token kind (take m (b ∷ bs)) ≡ false
other_kind b bs told is kind zero own = some_bytes kind
other_kind b bs told is kind (suc m) own =
    false_from_ne_true _ (λ token. both_ways _ (own (sym is ∙ first_tells kind b (take m bs) token)) token)

-- a byte that begins no token
pub none_begins : (bytes : List ℕ) → 0 < length bytes → first_kind (get_or bytes 0 0) ≡ None → (kind : TokenKind) → NoFront (is_token kind) bytes
none_begins [] some told kind = absurd (omega arith)
none_begins (b ∷ bs) some told kind = record { none = λ m. other_kind b bs None told kind m (λ same. cc) }

-- where no token of its own kind begins, none does
pub none_of_kind : (bytes : List ℕ) (own : TokenKind) → 0 < length bytes → first_kind (get_or bytes 0 0) ≡ Some own → NoFront (is_token own) bytes → (kind : TokenKind) → NoFront (is_token kind) bytes
none_of_kind [] own some told front kind = absurd (omega arith)
none_of_kind (b ∷ bs) own some told front kind = record {
  none = λ m. other_kind b bs (Some own) told kind m (λ same. let e : own ≡ kind = cc in subst (λ k. is_token k (take m (b ∷ bs)) ≡ false) e (front.none m));
}

-- the longest token of its own kind is the longest token
pub begins : (bytes : List ℕ) (own : TokenKind) (n : ℕ) → 0 < length bytes → first_kind (get_or bytes 0 0) ≡ Some own → IsLongest (is_token own) bytes n → Begins bytes own n
begins [] own n some told front = absurd (omega arith)
begins (b ∷ bs) own n some told front = record {
  within = front.within;
  passes = front.passes;
  longest = λ kind m more fits. other_kind b bs (Some own) told kind m
      (λ same. let e : own ≡ kind = cc in subst (λ k. is_token k (take m (b ∷ bs)) ≡ false) e (front.longest m more fits));
}
