-- A number that is written with few digits is small.
use Rattle.std.proofs.Common.{◌≡◌, ◌<◌, ◌≤◌, ◌^◌, ◌/◌, ◌%◌, ◌*◌, ◌==◌, ℕ, ◌+◌, lit<, zero, suc, Bool, true, false, List, [], ◌∷◌, length, decimal, refl, ap, arith}
use Rattle.std.proofs.lemmas.Bool.{eqb-true}
use Rattle.std.specs.Fmt.{digits, digits_onto, digit_glyph}

-- ten times itself, so many times
tens : ℕ → ℕ
tens zero = 1
tens (suc m) = 10 * tens m

some_tens : (m : ℕ) → 0 < tens m
unfolding tens
some_tens zero = omega arith
some_tens (suc m) = let below = some_tens m in omega (arith, below)

one_digit : (k n : ℕ) (acc : List ℕ) → (n / 10 == 0) ≡ true → length (digits_onto (suc k) 10 false n acc) ≡ suc (length acc)
one_digit k n acc e = rw e refl

more_digits : (k n : ℕ) (acc : List ℕ) → (n / 10 == 0) ≡ false → digits_onto (suc k) 10 false n acc ≡ digits_onto k 10 false (n / 10) (digit_glyph false (n % 10) ∷ acc)
more_digits k n acc e = rw e refl

digits_grow : (k n : ℕ) (acc : List ℕ) → length acc ≤ length (digits_onto k 10 false n acc)
digits_grow zero n acc = omega arith
digits_grow (suc k) n acc = by_test (n / 10 == 0) refl (digits_grow k (n / 10) (digit_glyph false (n % 10) ∷ acc))
  where
    by_test : (t : Bool) → (n / 10 == 0) ≡ t → suc (length acc) ≤ length (digits_onto k 10 false (n / 10) (digit_glyph false (n % 10) ∷ acc)) → length acc ≤ length (digits_onto (suc k) 10 false n acc)
    by_test true e below = let one = one_digit k n acc e in omega (arith, one)
    by_test false e below = let whole = ap (λ ds. length ds) (more_digits k n acc e) in omega (arith, below, whole)

-- a number of few digits is small
few_digits : (k m n : ℕ) (acc : List ℕ) → m < k → length (digits_onto k 10 false n acc) ≤ m + length acc → n < tens m
unfolding tens
few_digits zero m n acc h e = omega arith
few_digits (suc k) zero n acc h e = by_test (n / 10 == 0) refl
  where
    by_test : (t : Bool) → (n / 10 == 0) ≡ t → n < 1
    by_test true f = let one = one_digit k n acc f in omega (arith, one, e)
    by_test false f =
        let below : suc (length acc) ≤ length (digits_onto k 10 false (n / 10) (digit_glyph false (n % 10) ∷ acc)) = digits_grow k (n / 10) (digit_glyph false (n % 10) ∷ acc) in
        let whole = ap (λ ds. length ds) (more_digits k n acc f) in
        omega (arith, below, whole, e)
few_digits (suc k) (suc m) n acc h e = by_test (n / 10 == 0) refl (λ left. few_digits k m (n / 10) (digit_glyph false (n % 10) ∷ acc) (omega arith) left)
  where
    by_test : (t : Bool) → (n / 10 == 0) ≡ t → (length (digits_onto k 10 false (n / 10) (digit_glyph false (n % 10) ∷ acc)) ≤ m + suc (length acc) → n / 10 < tens m) → n < 10 * tens m
    by_test true f below = let none : n / 10 ≡ 0 = eqb-true (n / 10) 0 f in let some = some_tens m in omega (arith, none, some)
    by_test false f below =
        let whole = ap (λ ds. length ds) (more_digits k n acc f) in
        let fewer : n / 10 < tens m = below (omega (arith, whole, e)) in
        omega (arith, fewer)

-- a number that is written with nine digits at most
pub few_decimal : (n : ℕ) → length (decimal n) ≤ 9 → n < 10 ^ 9
unfolding digits tens
few_decimal n h = few_digits 64 9 n [] (lit< tt) h
