-- What a filter leaves.
use Rattle.std.proofs.Common.{◌≡◌, inl, inr, ◌<◌, List, [], ◌∷◌, Bool, true, false, cond, filter, Contains, refl, sym, ap, ◌∙◌, subst, arith}
use Rattle.std.specs.Prelude.{◌↔◌}
use Rattle.std.proofs.lemmas.List.Elements.{All-contains, All-filter, All-contains_itself, filter_passes, filter_agree, Contains-append_left, Contains-append_right, Contains-append_cases, Contains-push_cases}
use Rattle.std.proofs.lemmas.List.Kept.{AllPairs-filter}
use Rattle.ms_ir.specs.Func.{FuncState}
use Rattle.ms_cache.specs.declared.change.Change.{Change}
use Rattle.ms_cache.specs.Stays.{Kept, Stays, AreOnce, AreWhatStays}

module _ {A : Type 0} (p : A → Bool) where
  passed : (xs : List A) (x : A) → Contains (filter p xs) x → Contains xs x × (p x ≡ true)
  passed xs x h = (
    All-contains (Contains xs) (filter p xs) x (All-filter p (Contains xs) xs (All-contains_itself xs)) h,
    All-contains (λ y. p y ≡ true) (filter p xs) x (filter_passes p xs) h,
  )

  behind : (b : Bool) (y : A) (ys : List A) (x : A) → Contains ys x → Contains (cond b (y ∷ ys) ys) x
  behind true y ys x h = Contains-append_right (y ∷ []) ys x h
  behind false y ys x h = h

  alone : (y x : A) → Contains (y ∷ []) x → y ≡ x
  alone y x h = elim (Contains-push_cases [] y x h) [
    | inl none ↦ absurd (let below : none.0 < 0 = none.1 in omega arith)
    | inr same ↦ same
  ]

  passes : (xs : List A) (x : A) → Contains xs x → p x ≡ true → Contains (filter p xs) x
  passes [] x h e = absurd (let below : h.0 < 0 = h.1 in omega arith)
  passes (y ∷ ys) x h e = elim (Contains-append_cases (y ∷ []) ys x h) [
    | inl here ↦ rw (ap p (alone y x here) ∙ e) (Contains-append_left (y ∷ []) (filter p ys) x here)
    | inr later ↦ behind (p y) y (filter p ys) x (passes ys x later e)
  ]

same : (s t : Bool) → (s ≡ true → t ≡ true) → (t ≡ true → s ≡ true) → s ≡ t
same true true h k = refl
same false false h k = refl
same true false h k = sym (h refl)
same false true h k = k refl

module _ (f : FuncState) (e : Change) (old : List Kept) where
  pub left_told : (new : List Kept) → AreWhatStays f e old new → (x : Kept) → Contains new x ↔ (Contains old x × Stays f e x.0)
  left_told new t x = (
    λ h. (let was = passed t.0 old x (subst (λ xs. Contains xs x) t.2 h) in (was.0, (t.1 x).0 was.1)),
    λ h. subst (λ xs. Contains xs x) (sym t.2) (passes t.0 old x h.0 ((t.1 x).1 h.1)),
  )

  pub left_once : (new : List Kept) → AreWhatStays f e old new → AreOnce old → AreOnce new
  left_once new t once = subst AreOnce (sym t.2) (AllPairs-filter (λ x y. x.0 ≡ y.0 → ⊥) t.0 old once)

  pub left_one : (a b : List Kept) → AreWhatStays f e old a → AreWhatStays f e old b → a ≡ b
  left_one a b s t =
      s.2 ∙ filter_agree s.0 t.0 (λ x. same (s.0 x) (t.0 x) (λ h. (t.1 x).1 ((s.1 x).0 h)) (λ h. (s.1 x).1 ((t.1 x).0 h))) old ∙ sym t.2
