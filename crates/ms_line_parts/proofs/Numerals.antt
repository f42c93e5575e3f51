-- What digits say.
use Rattle.std.proofs.Common.{◌≡◌, ℕ, ◌<◌, ◌≤◌, ◌^◌, ◌-◌, pos, ◌-ℤ◌, nat_le, true, decimal, Option, Some, None, List, [], ◌∷◌, length, refl, sym, ap, ◌∙◌, arith}
use Rattle.std.specs.Char.{is_ascii_digit}
use Rattle.std.specs.List.{list_all}
use Rattle.std.specs.Option.{MatchOption}
use Rattle.std.specs.Str.{all_ascii_digits, IsUtf8}
use Rattle.std.specs.Str.Parse.{digits_value}
use Rattle.std.proofs.lemmas.Str.{IsUtf8-from_ascii}
use Rattle.std.proofs.lemmas.Str.Parse.{IsNumeralModel, numerals_by_value, tells_all_ascii_digits}
use Rattle.std.proofs.lemmas.Fmt.{IsAscii-from_digits, decimal_is_IsNumeral}
use Rattle.std.proofs.lemmas.Bool.{and_parts}
use Rattle.std.proofs.lemmas.Bool.Decides.{nat_tests}
use Rattle.ms_grammar.specs.Numbers.{is_negative, magnitude, signed}
use Rattle.ms_lex.specs.Kinds.{is_digits}

pub own : IsNumeralModel (λ ds. all_ascii_digits ds ≡ true) (digits_value 10)
own = numerals_by_value _ tells_all_ascii_digits

all_digits : (s : List ℕ) → list_all is_ascii_digit s ≡ true → all_ascii_digits s ≡ true
all_digits [] h = refl
all_digits (b ∷ bs) h = let parts = and_parts (is_ascii_digit b) _ h in let rest = all_digits bs parts.1 in cc

-- digits in std's words
pub digits_all : (s : List ℕ) → is_digits s ≡ true → all_ascii_digits s ≡ true
digits_all [] h = absurd (cc)
digits_all (b ∷ bs) h = all_digits (b ∷ bs) h

pub digits_some : (s : List ℕ) → is_digits s ≡ true → 0 < length s
digits_some [] h = absurd (cc)
digits_some (b ∷ bs) h = omega arith

-- digits are text
pub digits_text : (s : List ℕ) → is_digits s ≡ true → IsUtf8 s
digits_text s h = IsUtf8-from_ascii s (IsAscii-from_digits s (own.to s (digits_all s h)))

digits_from : (s : List ℕ) → 0 < length s → all_ascii_digits s ≡ true → is_digits s ≡ true
digits_from [] some h = absurd (omega arith)
digits_from (b ∷ bs) some h = all_back (b ∷ bs) h
  where
    all_back : (s : List ℕ) → all_ascii_digits s ≡ true → list_all is_ascii_digit s ≡ true
    all_back [] h = refl
    all_back (b ∷ bs) h = let parts = and_parts (is_ascii_digit b) _ h in let rest = all_back bs parts.1 in cc

-- a printed number in the words of tokens
pub decimal_digits : (n : ℕ) → n < 10 ^ 9 → is_digits (decimal n) ≡ true
decimal_digits n h =
    let numeral = decimal_is_IsNumeral n (omega arith) in
    digits_from (decimal n) numeral.0.0 (own.from (decimal n) numeral.0.1)

-- what a printed number is read as
pub decimal_value : (n : ℕ) → n < 10 ^ 9 → digits_value 10 (decimal n) ≡ n
decimal_value n h = (decimal_is_IsNumeral n (omega arith)).1

-- the value that was read of a printed number
pub read_back : (s : List ℕ) (o : Option ℕ) → (is_digits s ≡ true → MatchOption o (2 ^ 128 ≤ digits_value 10 s) (λ n. n ≡ digits_value 10 s)) →
    (n : ℕ) → n < 10 ^ 9 → s ≡ decimal n → o ≡ Some n
read_back s o read n h e =
    by_option o (read (ap is_digits e ∙ decimal_digits n h))
  where
    value : digits_value 10 s ≡ n
    value = ap (digits_value 10) e ∙ decimal_value n h

    by_option : (o : Option ℕ) → MatchOption o (2 ^ 128 ≤ digits_value 10 s) (λ n. n ≡ digits_value 10 s) → o ≡ Some n
    by_option None told = absurd (omega (arith, value, told))
    by_option (Some m) told = ap Some (told ∙ value)

-- a number with a minus, by its size
pub signed_below : (m : ℕ) (s : List ℕ) (n : ℕ) → is_negative s ≡ true → n ≡ magnitude s → n ≤ 2 ^ (m - 1) → signed m s ≡ Some (pos 0 -ℤ pos n)
signed_below m s n minus e low =
    let fits : nat_le (magnitude s) (2 ^ (m - 1)) ≡ true = grind (arith, nat_tests) in
    rw (minus, fits) (ap (λ k. Some (pos 0 -ℤ pos k)) (sym e))
