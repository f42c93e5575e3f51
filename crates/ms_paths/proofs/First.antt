-- The first number of a list that passes a test, and paths cut there.
use Rattle.std.proofs.Common.{◌≡◌, ℕ, zero, suc, ◌<◌, Bool, true, false, cond, ◌⊎◌, List, [], ◌∷◌, ◌++◌, length, Option, Some, None, refl, sym, ap, ◌∙◌, subst, ⊎_elim, arith, length-append}
use Rattle.std.proofs.lemmas.Bool.Decides.{nat_tests}
use Rattle.std.proofs.lemmas.Bool.{cases_Bool}
use Rattle.ms_paths.specs.Flow.{Block, IsPath}

abbrev pub first : (ℕ → Bool) → List ℕ → Option ℕ
first F [] = None
first F (x ∷ p) = cond (F x) (Some x) (first F p)

-- no number of the list passes
abbrev pub Avoids : (ℕ → Bool) → List ℕ → Type 0
Avoids F [] = Unit {0}
Avoids F (x ∷ u) = (F x ≡ false) × Avoids F u

pub first_at : (F : ℕ → Bool) (x : ℕ) (p : List ℕ) → F x ≡ true → first F (x ∷ p) ≡ Some x
first_at F x p t = rw t

pub first_past : (F : ℕ → Bool) (x : ℕ) (p : List ℕ) → F x ≡ false → first F (x ∷ p) ≡ first F p
first_past F x p f = rw f

pub first_skip : (F : ℕ → Bool) (u p : List ℕ) → Avoids F u → first F (u ++ p) ≡ first F p
first_skip F [] p a = refl
first_skip F (x ∷ u) p a = first_past F x (u ++ p) a.0 ∙ first_skip F u p a.1

-- a list whose first number that passes is c
pub record Found (F : ℕ → Bool) (p : List ℕ) (c : ℕ) : Type 0 where
  pub front : List ℕ
  pub rest : List ℕ
  pub is : p ≡ front ++ c ∷ rest
  pub clear : Avoids F front
  pub stops : F c ≡ true

pub found : (F : ℕ → Bool) (p : List ℕ) (c : ℕ) → first F p ≡ Some c → Found F p c
found F [] c e = cc
found F (x ∷ p) c e =
    ⊎_elim
    (λ (t : F x ≡ true).
    let x_is : x ≡ c = let s : Some x ≡ Some c = sym (first_at F x p t) ∙ e in cc in
    record { front = []; rest = p; is = ap (λ y. y ∷ p) x_is; clear = tt; stops = subst (λ y. F y ≡ true) x_is t })
    (λ (f : F x ≡ false).
    let r = found F p c (sym (first_past F x p f) ∙ e) in
    record { front = x ∷ r.front; rest = r.rest; is = ap (λ l. x ∷ l) r.is; clear = (f, r.clear); stops = r.stops })
    (cases_Bool (F x))

pub avoids_part : (F G : ℕ → Bool) (u : List ℕ) → ((x : ℕ) → F x ≡ true → G x ≡ true) → Avoids G u → Avoids F u
avoids_part F G [] sub a = tt
avoids_part F G (x ∷ u) sub a = let s = sub x in let f = a.0 in (grind (arith, nat_tests), avoids_part F G u sub a.1)

first_none_head : (F : ℕ → Bool) (x : ℕ) (p : List ℕ) → first F (x ∷ p) ≡ None → (F x ≡ false) × (first F p ≡ None)
first_none_head F x p e = (grind (arith, nat_tests), grind (arith, nat_tests))

pub first_none : (F : ℕ → Bool) (p : List ℕ) → first F p ≡ None → Avoids F p
first_none F [] e = tt
first_none F (x ∷ p) e = let h = first_none_head F x p e in (h.0, first_none F p h.1)

pub none_first : (F : ℕ → Bool) (p : List ℕ) → Avoids F p → first F p ≡ None
none_first F [] a = refl
none_first F (x ∷ p) a = first_past F x p a.0 ∙ none_first F p a.1

pub cases_Option : (o r : Option ℕ) → (o ≡ r) ⊎ (o ≡ r → ⊥)
cases_Option o r = grind (arith, nat_tests)

-- a path up to one of its blocks
pub cut : (g : List Block) (b : ℕ) (u : List ℕ) (c : ℕ) (r : List ℕ) → IsPath g b (u ++ c ∷ r) → IsPath g c r
cut g b [] c r h = h.1
cut g b (a ∷ u) c r h = cut g a u c r h.1

-- a path with another way to one of its blocks
pub graft : (g : List Block) (b : ℕ) (u : List ℕ) (c : ℕ) (r s : List ℕ) → IsPath g b (u ++ c ∷ r) → IsPath g c s → IsPath g b (u ++ c ∷ s)
graft g b [] c r s h k = (h.0, k)
graft g b (a ∷ u) c r s h k = (h.0, graft g a u c r s h.1 k)

pub shorter : (p u : List ℕ) (c : ℕ) (r : List ℕ) → p ≡ u ++ c ∷ r → length r < length p
shorter p u c r e = rw e (omega (arith, length-append u (c ∷ r)))

-- induction by length
pub by_length : (P : List ℕ → Type 0) → ((p : List ℕ) → ((r : List ℕ) → length r < length p → P r) → P p) → (p : List ℕ) → P p
by_length P step p = go (suc (length p)) p (omega arith)
  where
    go : (n : ℕ) (p : List ℕ) → length p < n → P p
    go zero p h = absurd (omega arith)
    go (suc n) p h = step p (λ r k. go n r (omega arith))
