-- Numbers by their digits.
use Rattle.std.proofs.Common.{◌≡◌, ℕ, ◌+◌, ◌-◌, ◌*◌, ◌<◌, ◌≤◌, Bool, true, false, List, [], ◌∷◌, ◌++◌, length, get_or, take, drop, refl, sym, ap, subst, ◌∙◌, arith}
use Rattle.ms_lex.specs.declared.token.Token.{Token}
use Rattle.ms_grammar.specs.Parts.{bytes_at}
use Rattle.ms_grammar.specs.Grammar.{IsReadableToken}
use Rattle.ms_line.specs.Spelled.{AreReadable}
use Rattle.std.specs.List.{list_all}
use Rattle.std.specs.Char.{is_ascii_digit, digit_value}
use Rattle.std.specs.Str.Parse.{digits_value, digits_value_after}
use Rattle.std.proofs.lemmas.Int.Digits.{digits_value_more}
use Rattle.std.proofs.lemmas.List.{take-append-drop, drop_more}
use Rattle.std.proofs.lemmas.List.Folds.{list_all_at}
use Rattle.std.proofs.lemmas.Bool.Decides.{nat_tests}

digit_at : (ds : List ℕ) (i : ℕ) → list_all is_ascii_digit ds ≡ true → i < length ds → is_ascii_digit (get_or ds i 0) ≡ true
digit_at ds i all inside = by_test (is_ascii_digit (get_or ds i 0)) refl
  where
    by_test : (t : Bool) → is_ascii_digit (get_or ds i 0) ≡ t → t ≡ true
    by_test true e = refl
    by_test false e = absurd (let none = list_all_at is_ascii_digit ds i 0 inside e in cc)

-- one more digit
pub next_value : (ds : List ℕ) (i value : ℕ) → list_all is_ascii_digit ds ≡ true → i < length ds → value ≡ digits_value 10 (take i ds) →
    value * 10 + (get_or ds i 0 - 48) ≡ digits_value 10 (take (i + 1) ds)
next_value ds i value all inside is =
    let digit = digit_at ds i all inside in
    let worth : digit_value (get_or ds i 0) ≡ get_or ds i 0 - 48 = grind (arith, nat_tests) in
    rw (digits_value_more 10 ds i inside, worth, is) refl

after_grows : (n : ℕ) (ds : List ℕ) → n ≤ digits_value_after 10 n ds
after_grows n [] = omega arith
after_grows n (d ∷ ds) = let below = after_grows (n * 10 + digit_value d) ds in omega (arith, below)

after_append : (n : ℕ) (xs ys : List ℕ) → digits_value_after 10 n (xs ++ ys) ≡ digits_value_after 10 (digits_value_after 10 n xs) ys
after_append n [] ys = refl
after_append n (x ∷ xs) ys = after_append (n * 10 + digit_value x) xs ys

-- more digits write no smaller number
front_below : (ds : List ℕ) (i : ℕ) → digits_value 10 (take i ds) ≤ digits_value 10 ds
front_below ds i =
    let whole = ap (λ xs. digits_value 10 xs) (sym (take-append-drop i ds)) ∙ after_append 0 (take i ds) (drop i ds) in
    let grows = after_grows (digits_value 10 (take i ds)) (drop i ds) in
    omega (arith, whole, grows)

-- where one more digit passes the bound, all of them do
pub passes : (ds : List ℕ) (i value most : ℕ) → list_all is_ascii_digit ds ≡ true → i < length ds → value ≡ digits_value 10 (take i ds) →
    most < value * 10 + (get_or ds i 0 - 48) → digits_value 10 ds ≤ most → ⊥
passes ds i value most all inside is above below =
    let next = next_value ds i value all inside is in
    let front = front_below ds (i + 1) in
    omega (arith, next, front, above, below)

-- the next token of those that may be read
pub next_readable : (line : List ℕ) (tokens : List Token) (i : ℕ) (d : Token) → i < length tokens → AreReadable line (drop i tokens) →
    IsReadableToken (get_or tokens i d).kind (bytes_at line (get_or tokens i d)) × AreReadable line (drop (i + 1) tokens)
next_readable line tokens i d inside h = subst (λ ts. AreReadable line ts) (drop_more tokens i d inside) h

pub more_readable : (line : List ℕ) (tokens : List Token) (i : ℕ) (d : Token) → i < length tokens → IsReadableToken (get_or tokens i d).kind (bytes_at line (get_or tokens i d)) →
    AreReadable line (drop (i + 1) tokens) → AreReadable line (drop i tokens)
more_readable line tokens i d inside first rest = subst (λ ts. AreReadable line ts) (sym (drop_more tokens i d inside)) (first, rest)
