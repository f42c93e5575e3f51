-- Which edges a list of edges to a block holds.
use Rattle.std.proofs.Common.{◌≡◌, ℕ, zero, suc, ◌+◌, ◌<◌, Bool, true, false, eqb, ◌⊎◌, List, [], ◌∷◌, length, get_or, refl, sym, ap, ◌∙◌, subst, inl, inr, ⊎_elim, arith, if◌then◌else◌}
use Rattle.std.specs.Prelude.{Contains}
use Rattle.std.proofs.lemmas.List.Elements.{Contains-append_cases, Contains-append_left, Contains-append_right}
use Rattle.std.proofs.lemmas.Bool.{cases_Bool, eq-eqb}
use Rattle.ms_paths.specs.Flow.{Block as Run}
use Rattle.ms_flow.specs.declared.sources.Source.{Source}
use Rattle.ms_flow.specs.Table.{next_of}
use Rattle.ms_flow.specs.Flow.{slots_to, edges_to}

abbrev pub edge : ℕ → ℕ → Source
edge a k = record { from = a; slot = k }

abbrev edges_from : (ℕ → Bool) → ℕ → ℕ → List ℕ → List Source
edges_from R b a next = if R a then slots_to a b 0 next else []

source_none : (y : Source) → Contains [] y → ⊥
source_none y h = omega (arith, h.1)

source_cons : (x : Source) (xs : List Source) (y : Source) → Contains (x ∷ xs) y → (x ≡ y) ⊎ Contains xs y
source_cons x xs y h = at h.0 h.1 h.2
  where
    at : (k : ℕ) → k < length (x ∷ xs) → get_or (x ∷ xs) k y ≡ y → (x ≡ y) ⊎ Contains xs y
    at zero lt e = inl e
    at (suc k) lt e = inr (k, omega arith, e)

slots_hold : (a b j : ℕ) (ts : List ℕ) (e : Source) → Contains (slots_to a b j ts) e → e.from ≡ a
slots_hold a b j [] e h = absurd (source_none e h)
slots_hold a b j (t ∷ ts) e h =
    ⊎_elim
    (λ (y : eqb t b ≡ true).
    let h' : Contains (edge a j ∷ slots_to a b (j + 1) ts) e = rw y at h in
    ⊎_elim
    (λ (s : edge a j ≡ e). sym (ap (λ (x : Source). x.from) s))
    (λ (i : Contains (slots_to a b (j + 1) ts) e). slots_hold a b (j + 1) ts e i)
    (source_cons (edge a j) (slots_to a b (j + 1) ts) e h'))
    (λ (n : eqb t b ≡ false). let h' : Contains (slots_to a b (j + 1) ts) e = rw n at h in slots_hold a b (j + 1) ts e h')
    (cases_Bool (eqb t b))

-- only the blocks of R count
pub edges_hold : (R : ℕ → Bool) (b a : ℕ) (g : List Run) (e : Source) → Contains (edges_to R b a g) e → R e.from ≡ true
edges_hold R b a [] e h = absurd (source_none e h)
edges_hold R b a (x ∷ g) e h =
    ⊎_elim
    (λ (i : Contains (edges_from R b a x.next) e).
    ⊎_elim
    (λ (y : R a ≡ true). let i' : Contains (slots_to a b 0 x.next) e = rw y at i in ap R (slots_hold a b 0 x.next e i') ∙ y)
    (λ (n : R a ≡ false). let i' : Contains [] e = rw n at i in absurd (source_none e i'))
    (cases_Bool (R a)))
    (λ (i : Contains (edges_to R b (a + 1) g) e). edges_hold R b (a + 1) g e i)
    (Contains-append_cases (edges_from R b a x.next) (edges_to R b (a + 1) g) e h)

-- the edge at slot 0 of a block of R is there
pub edges_have : (R : ℕ → Bool) (a : ℕ) (g : List Run) (k m t : ℕ) (ts : List ℕ) → k < length g → m ≡ a + k → R m ≡ true → next_of g k ≡ t ∷ ts → Contains (edges_to R t a g) (edge m 0)
edges_have R a [] k m t ts lt e on is = absurd (omega arith)
edges_have R a (x ∷ g) zero m t ts lt e on is =
    let same : m ≡ a = omega arith in
    let on' : R a ≡ true = subst (λ y. R y ≡ true) same on in
    let self : eqb t t ≡ true = eq-eqb t t refl in
    let all : edges_from R t a x.next ≡ edge a 0 ∷ slots_to a t 1 ts = rw (on', is, self) refl in
    Contains-append_left (edges_from R t a x.next) (edges_to R t (a + 1) g) (edge m 0) (rw (all, same) (0, omega arith, refl))
edges_have R a (x ∷ g) (suc k) m t ts lt e on is =
    Contains-append_right (edges_from R t a x.next) (edges_to R t (a + 1) g) (edge m 0) (edges_have R (a + 1) g k m t ts (omega arith) (omega arith) on is)
