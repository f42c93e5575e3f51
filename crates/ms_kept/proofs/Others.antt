-- Lists that have the same members in the same order but for some, and where a member stands in both.
use Rattle.std.proofs.Common.{◌≡◌, ◌<◌, arith, ℕ, zero, suc, Bool, true, false, cond, List, [], ◌∷◌, Some, take, filter, Contains, refl, sym, ap, ◌∙◌, subst, inl, inr, ⊎_elim}
use Rattle.std.specs.Prelude.{slice_get}
use Rattle.std.proofs.lemmas.List.Elements.{All-contains, All-filter, All-contains_itself, Contains-append_left, Contains-append_right, Contains-append_cases, Contains-push_cases}
use Rattle.std.proofs.lemmas.Bool.{cases_Bool, cond-true, cond-false}

module _ {A : Type 0} (p : A → Bool) where
  filter_yes : (x : A) (xs : List A) → p x ≡ true → filter p (x ∷ xs) ≡ x ∷ filter p xs
  filter_yes x xs t = cond-true (p x) (x ∷ filter p xs) (filter p xs) t

  filter_no : (x : A) (xs : List A) → p x ≡ false → filter p (x ∷ xs) ≡ filter p xs
  filter_no x xs f = cond-false (p x) (x ∷ filter p xs) (filter p xs) f

  -- a member that is left stands behind those left before it
  pub left_at : (xs : List A) (k : ℕ) (x : A) → slice_get xs k ≡ Some x → p x ≡ true →
      (m : ℕ) × (slice_get (filter p xs) m ≡ Some x) × (filter p (take k xs) ≡ take m (filter p xs))
  left_at [] k x e t = cc
  left_at (y ∷ ys) zero x e t =
      let same : y ≡ x = cc in
      let yes = filter_yes y ys (ap p same ∙ t) in
      (zero, ap (λ l. slice_get l zero) yes ∙ ap Some same, refl)
  left_at (y ∷ ys) (suc k) x e t =
      let r = left_at ys k x e t in
      ⊎_elim
      (λ (yes : p y ≡ true). (
        suc r.0,
        ap (λ l. slice_get l (suc r.0)) (filter_yes y ys yes) ∙ r.1,
        filter_yes y (take k ys) yes ∙ ap (λ l. y ∷ l) r.2 ∙ sym (ap (take (suc r.0)) (filter_yes y ys yes)),
      ))
      (λ (no : p y ≡ false). (
        r.0,
        ap (λ l. slice_get l r.0) (filter_no y ys no) ∙ r.1,
        filter_no y (take k ys) no ∙ r.2 ∙ sym (ap (take r.0) (filter_no y ys no)),
      ))
      (cases_Bool (p y))

  -- what is left at a place stands somewhere
  pub stood_at : (ys : List A) (m : ℕ) (x : A) → slice_get (filter p ys) m ≡ Some x →
      (k : ℕ) × (slice_get ys k ≡ Some x) × (filter p (take k ys) ≡ take m (filter p ys))
  stood_at [] m x e = cc
  stood_at (y ∷ ys) zero x e =
      ⊎_elim
      (λ (yes : p y ≡ true). (zero, sym (ap (λ l. slice_get l zero) (filter_yes y ys yes)) ∙ e, refl))
      (λ (no : p y ≡ false).
      let r = stood_at ys zero x (sym (ap (λ l. slice_get l zero) (filter_no y ys no)) ∙ e) in
      (suc r.0, r.1, filter_no y (take r.0 ys) no ∙ r.2 ∙ sym (ap (take zero) (filter_no y ys no))))
      (cases_Bool (p y))
  stood_at (y ∷ ys) (suc m) x e =
      ⊎_elim
      (λ (yes : p y ≡ true).
      let r = stood_at ys m x (sym (ap (λ l. slice_get l (suc m)) (filter_yes y ys yes)) ∙ e) in
      (suc r.0, r.1, filter_yes y (take r.0 ys) yes ∙ ap (λ l. y ∷ l) r.2 ∙ sym (ap (take (suc m)) (filter_yes y ys yes))))
      (λ (no : p y ≡ false).
      let r = stood_at ys (suc m) x (sym (ap (λ l. slice_get l (suc m)) (filter_no y ys no)) ∙ e) in
      (suc r.0, r.1, filter_no y (take r.0 ys) no ∙ r.2 ∙ sym (ap (take (suc m)) (filter_no y ys no))))
      (cases_Bool (p y))

  -- where the same is left of two lists, a member that is left stands in both, behind the same
  pub stands_in_both : (xs ys : List A) → filter p xs ≡ filter p ys → (k : ℕ) (x : A) → slice_get xs k ≡ Some x → p x ≡ true →
      (j : ℕ) × (slice_get ys j ≡ Some x) × (filter p (take k xs) ≡ filter p (take j ys))
  stands_in_both xs ys same k x e t =
      let a = left_at xs k x e t in
      let b = stood_at ys a.0 x (sym (ap (λ l. slice_get l a.0) same) ∙ a.1) in
      (b.0, b.1, a.2 ∙ ap (take a.0) same ∙ sym b.2)

  -- membership behind a filter
  pub left_in : (xs : List A) (x : A) → Contains (filter p xs) x → Contains xs x
  left_in xs x h = All-contains (Contains xs) (filter p xs) x (All-filter p (Contains xs) xs (All-contains_itself xs)) h

  behind : (b : Bool) (y : A) (ys : List A) (x : A) → Contains ys x → Contains (cond b (y ∷ ys) ys) x
  behind true y ys x h = Contains-append_right (y ∷ []) ys x h
  behind false y ys x h = h

  alone : (y x : A) → Contains (y ∷ []) x → y ≡ x
  alone y x h = elim (Contains-push_cases [] y x h) [
    | inl none ↦ absurd (let below : none.0 < 0 = none.1 in omega arith)
    | inr same ↦ same
  ]

  pub is_left : (xs : List A) (x : A) → Contains xs x → p x ≡ true → Contains (filter p xs) x
  is_left [] x h e = absurd (let below : h.0 < 0 = h.1 in omega arith)
  is_left (y ∷ ys) x h e = elim (Contains-append_cases (y ∷ []) ys x h) [
    | inl here ↦ rw (ap p (alone y x here) ∙ e) (Contains-append_left (y ∷ []) (filter p ys) x here)
    | inr later ↦ behind (p y) y (filter p ys) x (is_left ys x later e)
  ]

  -- where the same is left of two lists, one has each member that is left where the other has
  pub in_both : (xs ys : List A) → filter p xs ≡ filter p ys → (x : A) → p x ≡ true → Contains xs x → Contains ys x
  in_both xs ys same x t h = left_in ys x (subst (λ l. Contains l x) same (is_left xs x h t))
