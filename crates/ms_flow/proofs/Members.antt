-- What a list contains.
use Rattle.std.proofs.Common.{◌≡◌, ℕ, zero, suc, ◌<◌, false, ◌⊎◌, List, [], ◌∷◌, length, get_or, refl, inl, inr, ⊎_elim, arith}
use Rattle.std.specs.Prelude.{Contains, nat_eq}
use Rattle.std.specs.List.{IsDistinct, AllByRecursion}
use Rattle.std.proofs.lemmas.Bool.{cases_eq, ne_eqb}

pub here : (x : ℕ) (xs : List ℕ) → Contains (x ∷ xs) x
here x xs = (0, omega arith, refl)

pub here_is : (x : ℕ) (xs : List ℕ) (y : ℕ) → x ≡ y → Contains (x ∷ xs) y
here_is x xs y e = (0, omega arith, e)

pub there : (x : ℕ) (xs : List ℕ) (y : ℕ) → Contains xs y → Contains (x ∷ xs) y
there x xs y h = (suc h.0, omega (arith, h.1), h.2)

pub in_none : (y : ℕ) → Contains [] y → ⊥
in_none y h = omega (arith, h.1)

pub in_cons : (x : ℕ) (xs : List ℕ) (y : ℕ) → Contains (x ∷ xs) y → (x ≡ y) ⊎ Contains xs y
in_cons x xs y h = at h.0 h.1 h.2
  where
    at : (k : ℕ) → k < length (x ∷ xs) → get_or (x ∷ xs) k y ≡ y → (x ≡ y) ⊎ Contains xs y
    at zero lt e = inl e
    at (suc k) lt e = inr (k, omega arith, e)

-- no number stands twice
abbrev pub AreApart : List ℕ → Type 0
AreApart [] = Unit {0}
AreApart (x ∷ xs) = (Contains xs x → ⊥) × AreApart xs

none_equal : (x : ℕ) (xs : List ℕ) → (Contains xs x → ⊥) → AllByRecursion (λ y. nat_eq x y ≡ false) xs
none_equal x [] h = tt
none_equal x (y ∷ xs) h = (ne_eqb x y (λ e. h (rw e (here y xs))), none_equal x xs (λ c. h (there y xs x c)))

pub distinct : (xs : List ℕ) → AreApart xs → IsDistinct nat_eq xs
unfolding IsDistinct
distinct [] h = tt
distinct (x ∷ xs) h = (none_equal x xs h.0, distinct xs h.1)

pub in_or_not : (xs : List ℕ) (y : ℕ) → Contains xs y ⊎ (Contains xs y → ⊥)
in_or_not [] y = inr (in_none y)
in_or_not (x ∷ xs) y =
    ⊎_elim (λ (e : x ≡ y). inl (here_is x xs y e))
    (λ (n : x ≡ y → ⊥). ⊎_elim (λ (h : Contains xs y). inl (there x xs y h))
    (λ (m : Contains xs y → ⊥). inr (λ c. ⊎_elim (λ (e : x ≡ y). n e) (λ (h : Contains xs y). m h) (in_cons x xs y c)))
    (in_or_not xs y))
    (cases_eq x y)
