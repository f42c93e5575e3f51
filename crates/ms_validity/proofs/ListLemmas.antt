-- What holds at no place of a list, below a number.
use Rattle.std.proofs.Common.{◌≡◌, ℕ, zero, suc, ◌+◌, ◌<◌, ◌⊎◌, List, [], ◌∷◌, ◌++◌, length, map, Some, None, refl, sym, ap, ◌∙◌, subst, zero-add, inl, inr, ⊎_elim, arith}
use Rattle.std.specs.List.{slice_get, flat_map}
use Rattle.std.specs.Option.{option_map}
use Rattle.std.proofs.lemmas.Bool.{cases_eq}
use Rattle.std.proofs.lemmas.Option.{slice_get_within, slice_get-map, none-some, same_Some}
use Rattle.ms_resolve.specs.Faults.{IsIn}

-- what stands at a place has this
abbrev pub AtPlace : {X : Type 0} → List X → (X → Type 0) → ℕ → Type 0
AtPlace {X} xs P k = (x : X) × (slice_get xs k ≡ Some x) × P x

abbrev pub Has : {X : Type 0} → List X → (X → Type 0) → Type 0
Has {X} xs P = (x : X) × IsIn xs x × P x

abbrev pub NoneBelow : (ℕ → Type 0) → ℕ → Type 0
NoneBelow P k = (j : ℕ) → j < k → P j → ⊥

pub none_more : (P : ℕ → Type 0) (k : ℕ) → NoneBelow P k → (P k → ⊥) → NoneBelow P (k + 1)
none_more P k none not j lt h =
    ⊎_elim (λ (e : j ≡ k). not (subst P e h)) (λ (n : j ≡ k → ⊥). none j (omega arith) h) (cases_eq j k)

pub none_in : {X : Type 0} (xs : List X) (P : X → Type 0) (k : ℕ) → length xs ≡ k → NoneBelow (AtPlace xs P) k → Has xs P → ⊥
none_in xs P k len none h =
    let within = slice_get_within xs h.1.0 h.0 h.1.1 in
    none h.1.0 (omega arith) (h.0, h.1.1, h.2)

pub in_at : {X : Type 0} (xs : List X) (P : X → Type 0) (k : ℕ) → AtPlace xs P k → Has xs P
in_at xs P k h = (h.0, (k, h.1), h.2)

-- a list of one at most
pub only_one : {X : Type 0} (xs : List X) (x : X) (P : X → Type 0) → slice_get xs 0 ≡ Some x → ((k : ℕ) → slice_get xs (suc k) ≡ None) → Has xs P → P x
only_one xs x P first none h = at h.1.0 h.1.1
  where
    at : (k : ℕ) → slice_get xs k ≡ Some h.0 → P x
    at zero e = let same : h.0 ≡ x = cc in subst P same h.2
    at (suc k) e = let past = none k in absurd (none-some h.0 (sym past ∙ e))

pub in_nil : {X : Type 0} (x : X) → IsIn [] x → ⊥
in_nil x h = none-some x h.1

pub in_cons : {X : Type 0} (y : X) (xs : List X) (x : X) → IsIn (y ∷ xs) x → (y ≡ x) ⊎ IsIn xs x
in_cons y xs x h = at h.0 h.1
  where
    at : (k : ℕ) → slice_get (y ∷ xs) k ≡ Some x → (y ≡ x) ⊎ IsIn xs x
    at zero e = inl (same_Some y x e)
    at (suc k) e = inr (k, e)

pub in_one : {X : Type 0} (y x : X) → IsIn (y ∷ []) x → y ≡ x
in_one y x h = ⊎_elim (λ (e : y ≡ x). e) (λ (n : IsIn [] x). absurd (in_nil x n)) (in_cons y [] x h)

pub in_here : {X : Type 0} (x : X) (xs : List X) → IsIn (x ∷ xs) x
in_here x xs = (0, refl)

pub in_there : {X : Type 0} (y : X) (xs : List X) (x : X) → IsIn xs x → IsIn (y ∷ xs) x
in_there y xs x h = (suc h.0, h.1)

pub in_append : {X : Type 0} (xs ys : List X) (x : X) → IsIn (xs ++ ys) x → IsIn xs x ⊎ IsIn ys x
in_append [] ys x h = inr h
in_append (y ∷ xs) ys x h =
    ⊎_elim (λ (e : y ≡ x). inl (subst (λ z. IsIn (y ∷ xs) z) e (in_here y xs)))
    (λ (r : IsIn (xs ++ ys) x). ⊎_elim (λ (a : IsIn xs x). inl (in_there y xs x a)) (λ (b : IsIn ys x). inr b) (in_append xs ys x r))
    (in_cons y (xs ++ ys) x h)

pub get_left : {X : Type 0} (xs ys : List X) (k : ℕ) (x : X) → slice_get xs k ≡ Some x → slice_get (xs ++ ys) k ≡ Some x
get_left [] ys k x e = absurd (none-some x e)
get_left (y ∷ xs) ys zero x e = e
get_left (y ∷ xs) ys (suc k) x e = get_left xs ys k x e

pub get_right : {X : Type 0} (xs ys : List X) (k : ℕ) (x : X) → slice_get ys k ≡ Some x → slice_get (xs ++ ys) (length xs + k) ≡ Some x
get_right [] ys k x e = rw (zero-add k) e
get_right (y ∷ xs) ys k x e =
    let next : suc (length xs) + k ≡ suc (length xs + k) = omega arith in
    subst (λ n. slice_get (y ∷ (xs ++ ys)) n ≡ Some x) (sym next) (get_right xs ys k x e)

pub in_left : {X : Type 0} (xs ys : List X) (x : X) → IsIn xs x → IsIn (xs ++ ys) x
in_left xs ys x h = (h.0, get_left xs ys h.0 x h.1)

pub in_right : {X : Type 0} (xs ys : List X) (x : X) → IsIn ys x → IsIn (xs ++ ys) x
in_right xs ys x h = (length xs + h.0, get_right xs ys h.0 x h.1)

pub in_flat : {X Y : Type 0} (f : X → List Y) (xs : List X) (y : Y) → IsIn (flat_map f xs) y → (x : X) × IsIn xs x × IsIn (f x) y
in_flat f [] y h = absurd (in_nil y h)
in_flat {X} f (x ∷ xs) y h =
    ⊎_elim (λ (a : IsIn (f x) y). (x, in_here x xs, a))
    (λ (b : IsIn (flat_map f xs) y). let r = in_flat f xs y b in (r.0, in_there x xs r.0 r.1, r.2))
    (in_append (f x) (flat_map f xs) y h)

pub flat_in : {X Y : Type 0} (f : X → List Y) (xs : List X) (x : X) (y : Y) → IsIn xs x → IsIn (f x) y → IsIn (flat_map f xs) y
flat_in f [] x y h i = absurd (in_nil x h)
flat_in {X} {Y} f (z ∷ xs) x y h i =
    ⊎_elim (λ (e : z ≡ x). in_left (f z) (flat_map f xs) y (subst (λ (w : X). IsIn (f w) y) (sym e) i))
    (λ (r : IsIn xs x). in_right (f z) (flat_map f xs) y (flat_in f xs x y r i))
    (in_cons z xs x h)

pub get_map : {X Y : Type 0} (f : X → Y) (xs : List X) (k : ℕ) (y : Y) → slice_get (map f xs) k ≡ Some y → (x : X) × (slice_get xs k ≡ Some x) × (f x ≡ y)
get_map f [] k y e = absurd (none-some y e)
get_map f (x ∷ xs) zero y e = (x, refl, same_Some (f x) y e)
get_map f (x ∷ xs) (suc k) y e = get_map f xs k y e

pub map_get : {X Y : Type 0} (f : X → Y) (xs : List X) (k : ℕ) (x : X) → slice_get xs k ≡ Some x → slice_get (map f xs) k ≡ Some (f x)
map_get f xs k x e = slice_get-map f xs k ∙ ap (option_map f) e

-- what holds of a member of joined lists holds of a member of one of them
pub has_flat : {X Y : Type 0} (f : X → List Y) (xs : List X) (Q : Y → Type 0) → Has (flat_map f xs) Q → Has xs (λ x. Has (f x) Q)
has_flat f xs Q h = let r = in_flat f xs h.0 h.1 in (r.0, r.1, (h.0, r.2, h.2))

pub flat_has : {X Y : Type 0} (f : X → List Y) (xs : List X) (Q : Y → Type 0) → Has xs (λ x. Has (f x) Q) → Has (flat_map f xs) Q
flat_has f xs Q h = (h.2.0, flat_in f xs h.0 h.2.0 h.1 h.2.1, h.2.2)
