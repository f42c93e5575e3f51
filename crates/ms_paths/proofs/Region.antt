-- Phis over a set of blocks that one enters only over instructions.
use Rattle.std.proofs.Common.{arith, ◌≡◌, ℕ, ◌<◌, Bool, true, false, cond, ◌&&◌, ◌||◌, ◌⊎◌, List, [], ◌∷◌, refl, sym, ap, ◌∙◌, ⊎_elim}
use Rattle.std.proofs.lemmas.Bool.Decides.{nat_tests}
use Rattle.std.proofs.lemmas.Bool.{cases_Bool, both_ways, or_left, and_parts, and_cases, cond-true}
use Rattle.ms_paths.specs.Flow.{Block, HasEdge, IsPath, IsReached}
use Rattle.ms_paths.proofs.First.{first, first_at, first_past}
use Rattle.ms_paths.proofs.Core.{stop, Enough, Needed, enough_both}
use Rattle.ms_paths.proofs.Order.{Places}
use Rattle.ms_paths.proofs.Least.{Trivial, least}

-- S on Z, and everything elsewhere
abbrev pub inside : (ℕ → Bool) → (ℕ → Bool) → ℕ → Bool
inside Z S x = cond (Z x) (S x) true

pub inside_out : (Z S : ℕ → Bool) (x : ℕ) → inside Z S x ≡ false → (Z x ≡ true) × (S x ≡ false)
inside_out Z S x f = (grind (arith, nat_tests), grind (arith, nat_tests))

pub inside_at : (Z S : ℕ → Bool) (x : ℕ) → Z x ≡ true → inside Z S x ≡ S x
inside_at Z S x t = cond-true (Z x) (S x) true t

module _ (g : List Block) (E Z : ℕ → Bool) (closed : (a b : ℕ) → Z b ≡ true → IsReached g a → HasEdge g a b → (Z a ≡ true) ⊎ (E a ≡ true)) where
  pub region_same : (S R : ℕ → Bool) → ((x : ℕ) → Z x ≡ true → S x ≡ R x) → (b : ℕ) (p : List ℕ) → Z b ≡ true → IsPath g b p →
      first (stop E S) p ≡ first (stop E R) p
  region_same S R same b [] z h = refl
  region_same S R same b (a ∷ p) z h =
      ⊎_elim
      (λ (za : Z a ≡ true).
      let s : stop E S a ≡ stop E R a = ap (λ v. E a || v) (same a za) in
      ⊎_elim (λ (t : stop E S a ≡ true). first_at (stop E S) a p t ∙ sym (first_at (stop E R) a p (sym s ∙ t)))
      (λ (f : stop E S a ≡ false). first_past (stop E S) a p f ∙ region_same S R same a p za h.1 ∙ sym (first_past (stop E R) a p (sym s ∙ f)))
      (cases_Bool (stop E S a)))
      (λ (e : E a ≡ true). first_at (stop E S) a p (or_left (E a) (S a) e) ∙ sym (first_at (stop E R) a p (or_left (E a) (R a) e)))
      (closed a b z (p, h.1) h.0)

  pub inside_enough : (S : ℕ → Bool) → Enough g E S → Enough g E (inside Z S)
  inside_enough S s = record {
    same = λ b p q hp hq f.
        let out = inside_out Z S b f in
        region_same (inside Z S) S (inside_at Z S) b p out.0 hp ∙ s.same b p q hp hq out.1 ∙ sym (region_same (inside Z S) S (inside_at Z S) b q out.0 hq);
  }

  -- phis that are enough over Z, none of them trivial, are needed
  pub region_needed : (place : ℕ → ℕ) (n : ℕ) → Places g place n → (m : ℕ) → ((x : ℕ) → IsReached g x → x < m) →
      (K : ℕ → Bool) → Enough g E (inside Z K) → ((b : ℕ) → Z b ≡ true → IsReached g b) →
      ((b : ℕ) → Z b ≡ true → K b ≡ true → Needed g E b ⊎ (Trivial g E (inside Z K) b → ⊥)) → (b : ℕ) → Z b ≡ true → K b ≡ true → Needed g E b
  region_needed place n o m within K ke reached real b z kb = λ S s.
      let T : ℕ → Bool = λ x. inside Z S x && inside Z K x in
      let te = enough_both g E (inside Z S) (inside Z K) T (inside_enough S s) ke (λ x t. and_parts (inside Z S x) (inside Z K x) t) (λ x f. and_cases (inside Z S x) (inside Z K x) f) in
      let all = least g place n o E (inside Z K) ke m within T te (λ x t. (and_parts (inside Z S x) (inside Z K x) t).1)
      (λ x kx f.
      let out = ⊎_elim (λ (u : inside Z S x ≡ false). inside_out Z S x u) (λ (u : inside Z K x ≡ false). absurd (both_ways (inside Z K x) u kx))
      (and_cases (inside Z S x) (inside Z K x) f) in (
        reached x out.0,
        ⊎_elim (λ (n : Needed g E x). absurd (both_ways (S x) out.1 (n S s))) (λ (n : Trivial g E (inside Z K) x → ⊥). n)
            (real x out.0 (sym (inside_at Z K x out.0) ∙ kx)),
      )) in
      sym (inside_at Z S b z) ∙ (and_parts (inside Z S b) (inside Z K b) (all b (inside_at Z K b z ∙ kb))).0
