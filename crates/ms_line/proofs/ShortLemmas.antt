-- Tests on lists of names.
use Rattle.std.proofs.Common.{◌≡◌, ◌≤◌, ℕ, Bool, true, false, ◌&&◌, List, [], ◌∷◌, ◌++◌, length, refl, sym, ap, ◌∙◌, zero, suc, decimal, arith, ◌+◌, ◌/◌, ◌%◌, ◌==◌}
use Rattle.std.specs.List.{flat_map, list_all}
use Rattle.std.specs.Fmt.{digits, digits_onto, digit_glyph}
use Rattle.std.proofs.lemmas.List.Folds.{list_all-append}
use Rattle.std.proofs.lemmas.Bool.Decides.{nat_tests}
use Rattle.ms_grammar.specs.Kept.{Each}
use Rattle.ms_grammar.specs.Limits.{IsShort}
use Rattle.ms_line.specs.Short.{is_short, are_short}

-- the names of each member are short
pub all_flat : {X : Type 0} (f : X → List (List ℕ)) (xs : List X) → list_all (λ x. are_short (f x)) xs ≡ are_short (flat_map f xs)
all_flat f [] = refl
all_flat f (x ∷ xs) = ap (λ b. are_short (f x) && b) (all_flat f xs) ∙ sym (list_all-append is_short (f x) (flat_map f xs))

pub short_append : (xs ys : List (List ℕ)) → are_short (xs ++ ys) ≡ (are_short xs && are_short ys)
short_append xs ys = list_all-append is_short xs ys

-- a number is printed with at most so many digits as there are steps
steps_digits : (k n : ℕ) (acc : List ℕ) → length (digits_onto k 10 false n acc) ≤ k + length acc
steps_digits zero n acc = omega arith
steps_digits (suc k) n acc = by_test (n / 10 == 0) refl (steps_digits k (n / 10) (digit_glyph false (n % 10) ∷ acc))
  where
    by_test : (t : Bool) → (n / 10 == 0) ≡ t → length (digits_onto k 10 false (n / 10) (digit_glyph false (n % 10) ∷ acc)) ≤ k + suc (length acc) →
        length (digits_onto (suc k) 10 false n acc) ≤ suc k + length acc
    by_test true e below = let one : digits_onto (suc k) 10 false n acc ≡ digit_glyph false (n % 10) ∷ acc = rw e refl in let whole = ap (λ ds. length ds) one in omega (arith, whole)
    by_test false e below =
        let one : digits_onto (suc k) 10 false n acc ≡ digits_onto k 10 false (n / 10) (digit_glyph false (n % 10) ∷ acc) = rw e refl in
        let whole = ap (λ ds. length ds) one in
        omega (arith, whole, below)

few_digits : (n : ℕ) → length (decimal n) ≤ 64
unfolding digits
few_digits n = let below = steps_digits 64 n [] in omega (arith, below)

-- a number's digits are few
pub short_number : (n : ℕ) → is_short (decimal n) ≡ true
short_number n = let few = few_digits n in grind (arith, nat_tests)

is_short_told : (name : List ℕ) → is_short name ≡ true → IsShort name
is_short_told name h = grind (arith, nat_tests)

is_short_tells : (name : List ℕ) → IsShort name → is_short name ≡ true
is_short_tells name h = grind (arith, nat_tests)

and_first : (a b : Bool) → (a && b) ≡ true → a ≡ true
and_first true b h = refl
and_first false b h = h

and_second : (a b : Bool) → (a && b) ≡ true → b ≡ true
and_second true b h = h
and_second false b h = absurd (cc)

pub each_short : (names : List (List ℕ)) → are_short names ≡ true → Each IsShort names
each_short [] h = tt
each_short (name ∷ names) h = (is_short_told name (and_first (is_short name) (are_short names) h), each_short names (and_second (is_short name) (are_short names) h))

pub short_each : (names : List (List ℕ)) → Each IsShort names → are_short names ≡ true
short_each [] h = refl
short_each (name ∷ names) h = rw (is_short_tells name h.0) (short_each names h.1)
