-- The least that has a fault.
use Rattle.std.proofs.Common.{◌≡◌, ℕ, ◌+◌, ◌<◌, ◌≤◌, ◌⊎◌, min, Option, Some, None, sym, subst, inl, inr, ⊎_elim, arith}
use Rattle.std.proofs.lemmas.Bool.{cases_eq, cases_lt}
use Rattle.ms_validity.specs.Cause.{IsLeast}
use Rattle.ms_validity.specs.Told.{Tells}
use Rattle.ms_names.specs.Draft.{earlier}

-- the first ones, i of them, have the fault
abbrev pub Before : (ℕ → ℕ → Type 0) → ℕ → ℕ → Type 0
Before At i n = (j : ℕ) × (j < i) × At j n

pub told_one : (Has : ℕ → Type 0) (n : ℕ) → Has n → ((k : ℕ) → Has k → k ≡ n) → Tells Has (Some n)
told_one Has n has one = record { has = has; least = λ k lt h. let e = one k h in omega arith }

pub told_like : (P Q : ℕ → Type 0) (o : Option ℕ) → ((n : ℕ) → P n → Q n) → ((n : ℕ) → Q n → P n) → Tells P o → Tells Q o
told_like P Q None there back t = λ n h. t n (back n h)
told_like P Q (Some k) there back t = record { has = there k t.has; least = λ m lt h. t.least m lt (back m h) }

pub told_either : (P Q : ℕ → Type 0) (a b : Option ℕ) → Tells P a → Tells Q b → Tells (λ n. P n ⊎ Q n) (earlier a b)
told_either P Q None None s t = λ n h. ⊎_elim (λ (p : P n). s n p) (λ (q : Q n). t n q) h
told_either P Q None (Some k) s t = record { has = inr t.has; least = λ m lt h. ⊎_elim (λ (p : P m). s m p) (λ (q : Q m). t.least m lt q) h }
told_either P Q (Some j) None s t = record { has = inl s.has; least = λ m lt h. ⊎_elim (λ (p : P m). s.least m lt p) (λ (q : Q m). t m q) h }
told_either P Q (Some j) (Some k) s t =
    ⊎_elim
    (λ (l : j < k).
    let e : min j k ≡ j = omega arith in
    subst (λ x. IsLeast (λ n. P n ⊎ Q n) x) (sym e)
    (record { has = inl s.has; least = λ m lt h. ⊎_elim (λ (p : P m). s.least m lt p) (λ (q : Q m). t.least m (omega arith) q) h }))
    (λ (l : k ≤ j).
    let e : min j k ≡ k = omega arith in
    subst (λ x. IsLeast (λ n. P n ⊎ Q n) x) (sym e)
    (record { has = inr t.has; least = λ m lt h. ⊎_elim (λ (p : P m). s.least m (omega arith) p) (λ (q : Q m). t.least m lt q) h }))
    (cases_lt j k)

pub told_none : (At : ℕ → ℕ → Type 0) → Tells (Before At 0) None
told_none At = λ n h. let lt = h.1 in omega arith

pub told_more : (At : ℕ → ℕ → Type 0) (i : ℕ) (a b : Option ℕ) → Tells (Before At i) a → Tells (At i) b → Tells (Before At (i + 1)) (earlier a b)
told_more At i a b s t =
    told_like (λ n. Before At i n ⊎ At i n) (Before At (i + 1)) (earlier a b)
    (λ n h. ⊎_elim (λ (w : Before At i n). (w.0, let lt = w.1 in omega arith, w.2)) (λ (x : At i n). (i, omega arith, x)) h)
    (λ n h. ⊎_elim (λ (e : h.0 ≡ i). inr (subst (λ j. At j n) e h.2)) (λ (ne : h.0 ≡ i → ⊥). inl (h.0, let lt = h.1 in omega arith, h.2)) (cases_eq h.0 i))
    (told_either (Before At i) (At i) a b s t)

pub told_all : (At : ℕ → ℕ → Type 0) (i : ℕ) (o : Option ℕ) → ((j n : ℕ) → At j n → j < i) → Tells (Before At i) o → Tells (λ n. (j : ℕ) × At j n) o
told_all At i o within t =
    told_like (Before At i) (λ n. (j : ℕ) × At j n) o (λ n h. (h.0, h.2)) (λ n h. (h.0, within h.0 n h.1, h.1)) t
