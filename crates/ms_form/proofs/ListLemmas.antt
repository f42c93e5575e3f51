use Rattle.std.proofs.Common.{◌≡◌, ◌≢◌, ◌<◌, ◌≤◌, inl, inr, ℕ, suc, zero, List, [], ◌∷◌, ◌++◌, length, get_or, map, Some, refl, ap, sym, ◌∙◌, arith}
use Rattle.std.specs.List.{slice_get}
use Rattle.std.proofs.Math.ListN.{replicate}
use Rattle.std.proofs.lemmas.Bool.Decides.{eqb_tells}
use Rattle.ms_form.specs.Lists.{IsIn, NotIn, EachOnce}
use Rattle.ms_form.specs.Chains.{without}

pub in_and_not : {A : Type 0} (x : A) (xs : List A) → IsIn x xs → NotIn x xs → ⊥
in_and_not x [] h out = h
in_and_not x (y ∷ xs) (inl e) out = out.0 e
in_and_not x (y ∷ xs) (inr h) out = in_and_not x xs h out.1

-- what is no member of a list is not its first
pub first_out : {A : Type 0} (x : A) (xs : List A) → NotIn x xs → slice_get xs 0 ≢ Some x
first_out x [] out w = cc
first_out x (y ∷ xs) out w = out.0 (cc)

pub first_in : {A : Type 0} (x : A) (xs : List A) → slice_get xs 0 ≡ Some x → IsIn x xs
first_in x [] w = cc
first_in x (y ∷ xs) w = inl (cc)

-- without a number that is there no more, a list is the same
pub without-out : (n : ℕ) (xs : List ℕ) → NotIn n xs → without n xs ≡ xs
without-out n [] out = refl
without-out n (m ∷ xs) out = elim (eqb_tells m n) [
  | inl same ↦ absurd (out.0 same.1)
  | inr other ↦ rw (other.0, without-out n xs out.1) refl
]

pub without-other : (n m : ℕ) (xs : List ℕ) → m ≢ n → without n (m ∷ xs) ≡ m ∷ without n xs
without-other n m xs ne = elim (eqb_tells m n) [
  | inl same ↦ absurd (ne same.1)
  | inr other ↦ rw other.0 refl
]

pub without-first : (n m : ℕ) (xs : List ℕ) → m ≡ n → NotIn m xs → without n (m ∷ xs) ≡ xs
without-first n m xs e out = elim (eqb_tells m n) [
  | inl same ↦ rw same.0 (without-out n xs (rw (← e) out))
  | inr other ↦ absurd (other.1 e)
]

pub not_in-without : (n : ℕ) (xs : List ℕ) → NotIn n (without n xs)
not_in-without n [] = tt
not_in-without n (m ∷ xs) = elim (eqb_tells m n) [
  | inl same ↦ rw same.0 (not_in-without n xs)
  | inr other ↦ rw other.0 (other.1, not_in-without n xs)
]

not_in-without_other : (n k : ℕ) (xs : List ℕ) → NotIn k xs → NotIn k (without n xs)
not_in-without_other n k [] out = tt
not_in-without_other n k (m ∷ xs) out = elim (eqb_tells m n) [
  | inl same ↦ rw same.0 (not_in-without_other n k xs out.1)
  | inr other ↦ rw other.0 (out.0, not_in-without_other n k xs out.1)
]

pub once-without : (n : ℕ) (xs : List ℕ) → EachOnce xs → EachOnce (without n xs)
once-without n [] once = tt
once-without n (m ∷ xs) once = elim (eqb_tells m n) [
  | inl same ↦ rw same.0 (once-without n xs once.1)
  | inr other ↦ rw other.0 (not_in-without_other n m xs once.0, once-without n xs once.1)
]

pub in-without : (n k : ℕ) (xs : List ℕ) → IsIn k xs → k ≢ n → IsIn k (without n xs)
in-without n k [] h ne = h
in-without n k (m ∷ xs) (inl e) ne = rw (without-other n m xs (λ w. ne (sym e ∙ w))) (inl e)
in-without n k (m ∷ xs) (inr h) ne = elim (eqb_tells m n) [
  | inl same ↦ rw same.0 (in-without n k xs h ne)
  | inr other ↦ rw other.0 (inr (in-without n k xs h ne))
]

-- Numbers below a bound, each once, are no more than the bound.
abbrev pub AllUnder : ℕ → List ℕ → Type 0
AllUnder b [] = Unit {0}
AllUnder b (n ∷ xs) = (n < b) × AllUnder b xs

length-without : (n : ℕ) (xs : List ℕ) → EachOnce xs → length xs ≤ suc (length (without n xs))
length-without n [] once = omega arith
length-without n (m ∷ xs) once = elim (eqb_tells m n) [
  | inl same ↦ rw (same.0, without-out n xs (let out : NotIn m xs = once.0 in rw (← same.1) out)) (omega arith)
  | inr other ↦ rw other.0 (omega (arith, length-without n xs once.1))
]

under-without : (b : ℕ) (xs : List ℕ) → AllUnder (suc b) xs → AllUnder b (without b xs)
under-without b [] h = tt
under-without b (m ∷ xs) h = elim (eqb_tells m b) [
  | inl same ↦ rw same.0 (under-without b xs h.1)
  | inr other ↦ rw other.0 (omega (arith, h.0, other.1), under-without b xs h.1)
]

pub bounded : (b : ℕ) (xs : List ℕ) → EachOnce xs → AllUnder b xs → length xs ≤ b
bounded zero [] once h = omega arith
bounded zero (m ∷ xs) once h = absurd (omega (arith, h.0))
bounded (suc b) xs once h =
    omega (arith, length-without b xs once, bounded b (without b xs) (once-without b xs once) (under-without b xs h))

pub get_or-push_default : {A : Type 0} (xs : List A) (d : A) (i : ℕ) → get_or (xs ++ d ∷ []) i d ≡ get_or xs i d
get_or-push_default [] d zero = refl
get_or-push_default [] d (suc i) = refl
get_or-push_default (x ∷ xs) d zero = refl
get_or-push_default (x ∷ xs) d (suc i) = get_or-push_default xs d i

pub get_or-replicate_default : {A : Type 0} (n : ℕ) (d : A) (i : ℕ) → get_or (replicate n d) i d ≡ d
get_or-replicate_default zero d i = refl
get_or-replicate_default (suc n) d zero = refl
get_or-replicate_default (suc n) d (suc i) = get_or-replicate_default n d i

pub map-replicated : {A B : Type 0} (f : A → B) (n : ℕ) (x : A) → map f (replicate n x) ≡ replicate n (f x)
map-replicated f zero x = refl
map-replicated f (suc n) x = ap (λ r. f x ∷ r) (map-replicated f n x)
