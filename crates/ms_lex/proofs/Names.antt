-- The longest front that is a word or digits.
use Rattle.std.proofs.Common.{◌≡◌, ◌<◌, ◌≤◌, ℕ, zero, suc, true, false, List, [], ◌∷◌, length, take, refl}
use Rattle.std.specs.Char.{is_ascii_digit}
use Rattle.std.proofs.lemmas.Bool.{false≢true, both_ways, and_left, and_parts, or_from, or_left, false_from_ne_true}
use Rattle.ms_lex.specs.Bytes.{starts_word}
use Rattle.ms_lex.specs.Kinds.{is_word, is_digits, is_name}
use Rattle.ms_lex.specs.Front.{IsLongest}
use Rattle.ms_lex.proofs.First.{digit_no_word}

-- what starts a word is no digit
no_digit : (b : ℕ) → starts_word b ≡ true → is_ascii_digit b ≡ false
no_digit b starts = false_from_ne_true (is_ascii_digit b) (λ digit. both_ways (starts_word b) (digit_no_word b digit) starts)

-- where a word is in front, the longest word is the longest name
pub name_front : (bytes : List ℕ) (n : ℕ) → IsLongest is_word bytes n → IsLongest is_name bytes n
name_front [] zero front = absurd (false≢true front.passes)
name_front [] (suc n) front = absurd (false≢true front.passes)
name_front (b ∷ bs) zero front = absurd (false≢true front.passes)
name_front (b ∷ bs) (suc n) front = record { within = front.within; passes = or_left _ _ front.passes; longest = longer }
  where
    starts : starts_word b ≡ true
    starts = (and_parts (starts_word b) _ front.passes).0

    digits : (m : ℕ) → is_digits (take m (b ∷ bs)) ≡ false
    digits zero = refl
    digits (suc m) = and_left (is_ascii_digit b) _ (no_digit b starts)

    longer : (m : ℕ) → suc n < m → m ≤ suc (length bs) → is_name (take m (b ∷ bs)) ≡ false
    longer m more fits = or_from _ _ (front.longest m more fits) (digits m)
