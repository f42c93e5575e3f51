-- The least line with a fault.
use Rattle.std.proofs.Common.{◌≡◌, ◌∙◌, ◌⊎◌, inl, inr, ⊎_elim, ℕ, suc, zero, ◌<◌, ◌≤◌, Bool, true, false, List, [], ◌∷◌, Option, Some, None, take, refl, sym, ap, subst, arith}
use Rattle.std.specs.Prelude.{min, nat_lt}
use Rattle.std.specs.List.{slice_get}
use Rattle.std.proofs.lemmas.Bool.{cases_Bool}
use Rattle.std.proofs.lemmas.Bool.Decides.{nat_tests}
use Rattle.ms_names.specs.Draft.{earlier, with_fault}

abbrev pub IsLeastOf : (ℕ → Type 0) → Option ℕ → Type 0
IsLeastOf P None = (n : ℕ) → P n → ⊥
IsLeastOf P (Some m) = P m × ((n : ℕ) → n < m → P n → ⊥)

pub least_change : (P Q : ℕ → Type 0) (o : Option ℕ) → ((n : ℕ) → P n → Q n) → ((n : ℕ) → Q n → P n) → IsLeastOf P o → IsLeastOf Q o
least_change P Q None to back h = λ n q. h n (back n q)
least_change P Q (Some m) to back h = (to m h.0, λ n lt q. h.1 n lt (back n q))

min_cases : (a b : ℕ) → ((min a b ≡ a) × (a ≤ b)) ⊎ ((min a b ≡ b) × (b ≤ a))
min_cases a b = ⊎_elim
    (λ (t : nat_lt a b ≡ true). let lt : a < b = grind (arith, nat_tests) in inl (omega arith, omega arith))
    (λ (f : nat_lt a b ≡ false). let le : b ≤ a = grind (arith, nat_tests) in inr (omega arith, omega arith))
    (cases_Bool (nat_lt a b))

pub least_join : (P Q : ℕ → Type 0) (a b : Option ℕ) → IsLeastOf P a → IsLeastOf Q b → IsLeastOf (λ n. P n ⊎ Q n) (earlier a b)
least_join P Q None None h k = λ n e. elim e [ inl p ↦ h n p | inr q ↦ k n q ]
least_join P Q None (Some m) h k = (inr k.0, λ n lt e. elim e [ inl p ↦ h n p | inr q ↦ k.1 n lt q ])
least_join P Q (Some m) None h k = (inl h.0, λ n lt e. elim e [ inl p ↦ h.1 n lt p | inr q ↦ k n q ])
least_join P Q (Some a) (Some b) h k = elim (min_cases a b) [
  | inl l ↦
      let R : ℕ → Type 0 = λ m. (P m ⊎ Q m) × ((n : ℕ) → n < m → P n ⊎ Q n → ⊥) in
      subst R (sym l.0) (inl h.0, λ n lt e. elim e [ inl p ↦ h.1 n lt p | inr q ↦ k.1 n (omega arith) q ])
  | inr r ↦
      let R : ℕ → Type 0 = λ m. (P m ⊎ Q m) × ((n : ℕ) → n < m → P n ⊎ Q n → ⊥) in
      subst R (sym r.0) (inr k.0, λ n lt e. elim e [ inl p ↦ h.1 n (omega arith) p | inr q ↦ k.1 n lt q ])
]

pub least_fault : (P : ℕ → Type 0) (o : Option ℕ) (b : Bool) (line : ℕ) → IsLeastOf P o → IsLeastOf (λ n. P n ⊎ ((b ≡ true) × (line ≡ n))) (with_fault o b line)
least_fault P o false line h = least_change P (λ n. P n ⊎ ((false ≡ true) × (line ≡ n))) o (λ n p. inl p) (λ n e. elim e [ inl p ↦ p | inr q ↦ let no : false ≡ true = q.0 in absurd (cc) ]) h
least_fault P o true line h =
    let One : ℕ → Type 0 = λ n. line ≡ n in
    let one : IsLeastOf One (Some line) = (refl, λ n lt e. omega arith) in
    least_change (λ n. P n ⊎ One n) (λ n. P n ⊎ ((true ≡ true) × (line ≡ n))) (earlier o (Some line))
    (λ n e. elim e [ inl p ↦ inl p | inr q ↦ inr (refl, q) ]) (λ n e. elim e [ inl p ↦ inl p | inr q ↦ inr q.1 ])
    (least_join P One o (Some line) h one)

-- going along a list with a state: the states, the least line at which the test fails, and such a line
abbrev pub run : {S A : Type 0} → (S → A → S) → S → List A → S
run step s [] = s
run step s (x ∷ xs) = run step (step s x) xs

abbrev pub least_along : {S A : Type 0} → (S → A → S) → (S → A → Bool) → (A → ℕ) → S → Option ℕ → List A → Option ℕ
least_along step test line s o [] = o
least_along step test line s o (x ∷ xs) = least_along step test line (step s x) (with_fault o (test s x) (line x)) xs

abbrev pub FaultAlong : {S A : Type 0} → (S → A → S) → (S → A → Bool) → (A → ℕ) → S → List A → ℕ → Type 0
FaultAlong step test line s [] n = ⊥
FaultAlong step test line s (x ∷ xs) n = ((test s x ≡ true) × (line x ≡ n)) ⊎ FaultAlong step test line (step s x) xs n

pub least_along_is : {S A : Type 0} (step : S → A → S) (test : S → A → Bool) (line : A → ℕ) (xs : List A) (s : S) (P : ℕ → Type 0) (o : Option ℕ) → IsLeastOf P o
    → IsLeastOf (λ n. P n ⊎ FaultAlong step test line s xs n) (least_along step test line s o xs)
least_along_is step test line [] s P o h = least_change P (λ n. P n ⊎ ⊥) o (λ n p. inl p) (λ n e. elim e [ inl p ↦ p | inr q ↦ absurd q ]) h
least_along_is step test line (x ∷ xs) s P o h =
    let Here : ℕ → Type 0 = λ n. (test s x ≡ true) × (line x ≡ n) in
    let There : ℕ → Type 0 = λ n. FaultAlong step test line (step s x) xs n in
    let o' = with_fault o (test s x) (line x) in
    least_change (λ n. (P n ⊎ Here n) ⊎ There n) (λ n. P n ⊎ (Here n ⊎ There n)) (least_along step test line (step s x) o' xs)
    (λ n e. elim e [ inl pq ↦ elim pq [ inl p ↦ inl p | inr q ↦ inr (inl q) ] | inr r ↦ inr (inr r) ])
    (λ n e. elim e [ inl p ↦ inl (inl p) | inr qr ↦ elim qr [ inl q ↦ inl (inr q) | inr r ↦ inr r ] ])
    (least_along_is step test line xs (step s x) (λ n. P n ⊎ Here n) o' (least_fault P o (test s x) (line x) h))

-- such a line by its place
pub record IsFaultAt (S A : Type 0) (step : S → A → S) (test : S → A → Bool) (line : A → ℕ) (s : S) (xs : List A) (n : ℕ) : Type 0 where
  pub at : ℕ
  pub x : A
  pub found : slice_get xs at ≡ Some x
  pub bad : test (run step s (take at xs)) x ≡ true
  pub on : line x ≡ n

pub along_at : {S A : Type 0} (step : S → A → S) (test : S → A → Bool) (line : A → ℕ) (xs : List A) (s : S) (n : ℕ) → FaultAlong step test line s xs n → IsFaultAt S A step test line s xs n
along_at step test line [] s n h = absurd h
along_at step test line (x ∷ xs) s n h = elim h [
  | inl here ↦ record { at = 0; x = x; found = refl; bad = here.0; on = here.1 }
  | inr there ↦ let r = along_at step test line xs (step s x) n there in record { at = suc r.at; x = r.x; found = r.found; bad = r.bad; on = r.on }
]

pub at_along : {S A : Type 0} (step : S → A → S) (test : S → A → Bool) (line : A → ℕ) (xs : List A) (s : S) (n at : ℕ) (y : A)
    → slice_get xs at ≡ Some y → test (run step s (take at xs)) y ≡ true → line y ≡ n → FaultAlong step test line s xs n
at_along step test line [] s n at y found bad on = cc
at_along step test line (x ∷ xs) s n zero y found bad on = let same : x ≡ y = cc in inl (ap (λ z. test s z) same ∙ bad, ap line same ∙ on)
at_along step test line (x ∷ xs) s n (suc k) y found bad on = inr (at_along step test line xs (step s x) n k y found bad on)
