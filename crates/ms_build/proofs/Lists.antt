-- Places of lists.
use Rattle.std.proofs.Common.{◌≡◌, ◌<◌, ◌≤◌, inl, inr, ℕ, suc, zero, List, [], ◌∷◌, length, get_or, Option, Some, None, refl, sym, ◌∙◌, arith}
use Rattle.std.specs.Prelude.{slice_get}
use Rattle.std.proofs.lemmas.Bool.Decides.{leb_tells}
use Rattle.std.proofs.lemmas.List.{get_or_past}
use Rattle.ms_form.specs.Lists.{IsIn}

-- A member that is not empty has its place.
pub within : {A : Type 0} (xs : List (Option A)) (n : ℕ) (x : A) → get_or xs n None ≡ Some x → n < length xs
within xs n x e = elim (leb_tells (length xs) n) [
  | inl past ↦ let none : None ≡ Some x = sym (get_or_past xs n None past.1) ∙ e in cc
  | inr inside ↦ inside.1
]

pub in_some : {A : Type 0} (x : A) (xs : List (List A)) (n : ℕ) → IsIn x (get_or xs n []) → n < length xs
in_some x xs n h = elim (leb_tells (length xs) n) [
  | inl past ↦ let none : ⊥ = rw (get_or_past xs n [] past.1) at h in absurd none
  | inr inside ↦ inside.1
]

pub row_within : {A : Type 0} (rows : List (List A)) (b slot : ℕ) → slot < length (get_or rows b []) → b < length rows
row_within rows b slot lt = elim (leb_tells (length rows) b) [
  | inl past ↦ let none : slot < 0 = rw (get_or_past rows b [] past.1) at lt in absurd (omega arith)
  | inr inside ↦ inside.1
]

pub slice_get_below : {A : Type 0} (xs : List A) (n : ℕ) (x : A) → slice_get xs n ≡ Some x → n < length xs
slice_get_below [] n x e = cc
slice_get_below (y ∷ xs) zero x e = omega arith
slice_get_below (y ∷ xs) (suc n) x e = let r = slice_get_below xs n x e in omega arith

pub slice_past : {A : Type 0} (xs : List A) (n : ℕ) → length xs ≤ n → slice_get xs n ≡ None
slice_past [] n h = refl
slice_past (x ∷ xs) zero h = absurd (omega arith)
slice_past (x ∷ xs) (suc n) h = slice_past xs n (omega arith)

pub member_at : {A : Type 0} (xs : List A) (n : ℕ) → n < length xs → (x : A) × (slice_get xs n ≡ Some x)
member_at [] n lt = absurd (omega arith)
member_at (x ∷ xs) zero lt = (x, refl)
member_at (x ∷ xs) (suc n) lt = member_at xs n (omega arith)
