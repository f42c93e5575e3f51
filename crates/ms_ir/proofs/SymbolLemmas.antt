use Rattle.std.proofs.Common.{◌≡◌, ◌⊎◌, inl, inr, ℕ, suc, zero, ◌+◌, List, [], ◌∷◌, ◌++◌, length, get_or, map, Bool, true, false, Some, refl, ap, sym, ◌∙◌, arith, length-append}
use Rattle.std.specs.Prelude.{◌||◌, if◌then◌else◌, nat_eq, position}
use Rattle.std.specs.List.{slice_get, list_any}
use Rattle.std.specs.Cmp.Lexicographic.{pointwise, same_text, other_text}
use Rattle.std.proofs.lemmas.Option.{slice_get-get_or, slice_get-map}
use Rattle.std.proofs.lemmas.List.Quantifiers.{position-Some}
use Rattle.std.proofs.lemmas.List.{length-map}
use Rattle.std.specs.Option.{option_map}
use Rattle.ms_ir.specs.Symbols.{NotNamed, AreDistinct}

bool_cases : (b : Bool) → (b ≡ true) ⊎ (b ≡ false)
bool_cases true = inl refl
bool_cases false = inr refl

or_false : (a b : Bool) → (a || b) ≡ false → (a ≡ false) × (b ≡ false)
or_false false b e = (refl, e)
or_false true b e = cc

-- the name at the place that a search finds
pub found_at : {A : Type 0} (f : A → List ℕ) (keys : List A) (name : List ℕ) (i : ℕ) → position (λ k. pointwise nat_eq name (f k)) keys ≡ Some i → slice_get (map f keys) i ≡ Some name
found_at f [] name i e = cc
found_at f (x ∷ xs) name i e =
    let found = position-Some (λ k. pointwise nat_eq name (f k)) (x ∷ xs) i x e in
    let same : name ≡ f (get_or (x ∷ xs) i x) = same_text name (f (get_or (x ∷ xs) i x)) (sym found.1) in
    slice_get-map f (x ∷ xs) i ∙ ap (option_map f) (slice_get-get_or (x ∷ xs) i x found.0) ∙ ap Some (sym same)

not_here : (x : List ℕ) (xs : List (List ℕ)) (name : List ℕ) → pointwise nat_eq name x ≡ false → NotNamed xs name → (n : ℕ) → slice_get (x ∷ xs) n ≡ Some name → ⊥
not_here x xs name e h zero f = let here : x ≡ name = cc in other_text name x (sym e) (sym here)
not_here x xs name e h (suc n) f = h n f

-- what a search does not find is not there
pub not_found : {A : Type 0} (f : A → List ℕ) (keys : List A) (name : List ℕ) → list_any (λ k. pointwise nat_eq name (f k)) keys ≡ false → NotNamed (map f keys) name
not_found f [] name e = λ n h. cc
not_found f (x ∷ xs) name e =
    let both = or_false (pointwise nat_eq name (f x)) (list_any (λ k. pointwise nat_eq name (f k)) xs) e in
    not_here (f x) (map f xs) name both.0 (not_found f xs name both.1)

-- what is not there is not found
pub not_there : {A : Type 0} (f : A → List ℕ) (keys : List A) (name : List ℕ) → NotNamed (map f keys) name → list_any (λ k. pointwise nat_eq name (f k)) keys ≡ false
not_there f [] name h = refl
not_there f (x ∷ xs) name h = elim (bool_cases (pointwise nat_eq name (f x))) [
  | inl here ↦ absurd (h 0 (ap Some (sym (same_text name (f x) (sym here)))))
  | inr other ↦ rw other (not_there f xs name (λ n. h (suc n)))
]

pub pushed : (names : List (List ℕ)) (name m : List ℕ) (i : ℕ) → slice_get (names ++ name ∷ []) i ≡ Some m → (slice_get names i ≡ Some m) ⊎ ((i ≡ length names) × (name ≡ m))
pushed [] name m zero e = inr (refl, cc)
pushed [] name m (suc i) e = cc
pushed (x ∷ names) name m zero e = inl e
pushed (x ∷ names) name m (suc i) e = elim (pushed names name m i e) [
  | inl h ↦ inl h
  | inr h ↦ inr (ap suc h.0, h.1)
]

pub distinct-push : (names : List (List ℕ)) (name : List ℕ) → AreDistinct names → NotNamed names name → AreDistinct (names ++ name ∷ [])
distinct-push names name d new = λ i j m ei ej. elim (pushed names name m i ei) [
  | inl hi ↦ elim (pushed names name m j ej) [
    | inl hj ↦ d i j m hi hj
    | inr hj ↦ absurd (new i (hi ∙ ap Some (sym hj.1)))
  ]
  | inr hi ↦ elim (pushed names name m j ej) [
    | inl hj ↦ absurd (new j (hj ∙ ap Some (sym hi.1)))
    | inr hj ↦ hi.0 ∙ sym hj.0
  ]
]

map-push : {A : Type 0} (f : A → List ℕ) (keys : List A) (k : A) → map f (keys ++ k ∷ []) ≡ map f keys ++ f k ∷ []
map-push f [] k = refl
map-push f (x ∷ keys) k = ap (λ r. f x ∷ r) (map-push f keys k)

-- a new name is added at the end
pub added : {A : Type 0} (f : A → List ℕ) (keys keys' : List A) (k : A) (name : List ℕ) → f k ≡ name → NotNamed (map f keys) name
    → keys' ≡ (if list_any (λ y. pointwise nat_eq (f k) (f y)) keys then keys else keys ++ k ∷ []) → map f keys' ≡ map f keys ++ name ∷ []
added f keys keys' k name is new e =
    let none : list_any (λ y. pointwise nat_eq (f k) (f y)) keys ≡ false = rw is (not_there f keys name new) in
    ap (map f) e ∙ rw none (map-push f keys k ∙ ap (λ n. map f keys ++ n ∷ []) is)

pub length-added : {A : Type 0} (f : A → List ℕ) (keys keys' : List A) (name : List ℕ) → map f keys' ≡ map f keys ++ name ∷ [] → length keys' ≡ length keys + 1
length-added f keys keys' name e = omega (arith, ap length e, length-map keys' f, length-map keys f, length-append (map f keys) (name ∷ []))
