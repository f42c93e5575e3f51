-- The longest front that passes each test.
use Rattle.std.proofs.Common.{◌≡◌, ◌==◌, ◌<◌, ◌≤◌, ◌+◌, ◌-◌, ℕ, zero, suc, Bool, true, false, cond, List, [], ◌∷◌, length, take, drop, get_or, refl, arith}
use Rattle.std.proofs.lemmas.List.{take_all}
use Rattle.std.proofs.Math.Numerals.{one-add}
use Rattle.std.specs.List.{list_all, prefix_len}
use Rattle.std.proofs.lemmas.Bool.{and_left, and_right, eq-eqb}
use Rattle.ms_lex.specs.Kinds.{behind, opens}
use Rattle.ms_lex.specs.Front.{IsLongest, NoFront}
use Rattle.ms_lex.specs.First.{StartsNot}

-- one byte more in front
pub behind_front : (first : ℕ) (test : List ℕ → Bool) (rest : List ℕ) (n : ℕ) → IsLongest test rest n → IsLongest (behind first test) (first ∷ rest) (suc n)
behind_front first test rest n front = record {
  within = omega (arith, front.within);
  passes = rw (eq-eqb first first refl) front.passes;
  longest = longer;
}
  where
    longer : (m : ℕ) → suc n < m → m ≤ suc (length rest) → behind first test (take m (first ∷ rest)) ≡ false
    longer zero more fits = absurd (omega arith)
    longer (suc m) more fits = and_right (first == first) _ (front.longest m (omega arith) (omega arith))

-- no front behind the byte, none with it
pub behind_none : (first : ℕ) (test : List ℕ → Bool) (rest : List ℕ) → NoFront test rest → NoFront (behind first test) (first ∷ rest)
behind_none first test rest front = record { none = no }
  where
    no : (m : ℕ) → behind first test (take m (first ∷ rest)) ≡ false
    no zero = refl
    no (suc m) = and_right (first == first) _ (front.none m)

-- another byte in front
pub behind_other : (first : ℕ) (test : List ℕ → Bool) (bytes : List ℕ) → StartsNot first bytes → NoFront (behind first test) bytes
behind_other first test [] other = record { none = no }
  where
    no : (m : ℕ) → behind first test (take m []) ≡ false
    no zero = refl
    no (suc m) = refl
behind_other first test (b ∷ bs) other = record { none = no }
  where
    no : (m : ℕ) → behind first test (take m (b ∷ bs)) ≡ false
    no zero = refl
    no (suc m) = and_left (b == first) _ other

-- one element more before all that pass
run_front_by : (p : ℕ → Bool) (x : ℕ) (xs : List ℕ) (t : Bool) → p x ≡ t → IsLongest (list_all p) xs (prefix_len p xs) → IsLongest (list_all p) (x ∷ xs) (cond t (1 + prefix_len p xs) 0)
run_front_by p x xs false fails rest = record { within = omega arith; passes = refl; longest = stops }
  where
    stops : (m : ℕ) → 0 < m → m ≤ suc (length xs) → list_all p (take m (x ∷ xs)) ≡ false
    stops zero more fits = absurd (omega arith)
    stops (suc m) more fits = and_left (p x) _ fails
run_front_by p x xs true passes rest = rw one-add (record { within = omega (arith, rest.within); passes = rw passes rest.passes; longest = stops })
  where
    stops : (m : ℕ) → suc (prefix_len p xs) < m → m ≤ suc (length xs) → list_all p (take m (x ∷ xs)) ≡ false
    stops zero more fits = absurd (omega arith)
    stops (suc m) more fits = and_right (p x) _ (rest.longest m (omega arith) (omega arith))

-- all that pass
pub run_front : (p : ℕ → Bool) (xs : List ℕ) → IsLongest (list_all p) xs (prefix_len p xs)
run_front p [] = record { within = omega arith; passes = refl; longest = λ m more fits. absurd (omega arith) }
run_front p (x ∷ xs) = run_front_by p x xs (p x) refl (run_front p xs)

-- the first passes, and then all that pass
pub first_front : (first p : ℕ → Bool) (b : ℕ) (bs : List ℕ) → first b ≡ true → IsLongest (opens first p) (b ∷ bs) (1 + prefix_len p bs)
first_front first p b bs passes = rw one-add (record {
  within = omega (arith, rest.within);
  passes = rw passes rest.passes;
  longest = stops;
})
  where
    rest : IsLongest (list_all p) bs (prefix_len p bs)
    rest = run_front p bs

    stops : (m : ℕ) → suc (prefix_len p bs) < m → m ≤ suc (length bs) → opens first p (take m (b ∷ bs)) ≡ false
    stops zero more fits = absurd (omega arith)
    stops (suc m) more fits = and_right (first b) _ (rest.longest m (omega arith) (omega arith))

-- the first does not pass
pub first_none : (first p : ℕ → Bool) (b : ℕ) (bs : List ℕ) → first b ≡ false → NoFront (opens first p) (b ∷ bs)
first_none first p b bs fails = record { none = none }
  where
    none : (m : ℕ) → opens first p (take m (b ∷ bs)) ≡ false
    none zero = refl
    none (suc m) = and_left (first b) _ fails

-- the same of bytes that are not none, as the code reads them
pub opens_front : (first p : ℕ → Bool) (bytes : List ℕ) → 1 ≤ length bytes → first (get_or bytes 0 0) ≡ true → IsLongest (opens first p) bytes (1 + prefix_len p (take (length bytes - 1) (drop 1 bytes)))
opens_front first p [] some passes = absurd (omega arith)
opens_front first p (b ∷ bs) some passes = rw (take_all (suc (length bs) - 1) bs (omega arith)) (first_front first p b bs passes)

pub opens_none : (first p : ℕ → Bool) (bytes : List ℕ) → 1 ≤ length bytes → first (get_or bytes 0 0) ≡ false → NoFront (opens first p) bytes
opens_none first p [] some fails = absurd (omega arith)
opens_none first p (b ∷ bs) some fails = first_none first p b bs fails

pub ruleset prefixed = (behind_front, behind_none, behind_other)
