-- The theory of phis over tests on blocks.
use Rattle.std.proofs.Common.{arith, ◌≡◌, ℕ, ◌<◌, Bool, true, false, ◌||◌, ◌⊎◌, ◌↔◌, List, ◌∷◌, length, Option, Some, None, refl, sym, ap, ◌∙◌, subst, ⊎_elim}
use Rattle.std.proofs.lemmas.Bool.Decides.{nat_tests}
use Rattle.std.proofs.lemmas.Bool.{cases_Bool, both_ways, or_parts}
use Rattle.ms_paths.specs.Flow.{Block, IsPath}
use Rattle.ms_paths.proofs.First.{first, first_at, first_past, first_skip, Found, found, avoids_part, first_none, none_first, cases_Option, cut, shorter, by_length}

-- where a path's last event may lie: a block with an event of its own, or with a phi
abbrev pub stop : (ℕ → Bool) → (ℕ → Bool) → ℕ → Bool
stop E S x = E x || S x

pub record Enough (g : List Block) (E S : ℕ → Bool) : Type 0 where
  pub same : (b : ℕ) (p q : List ℕ) → IsPath g b p → IsPath g b q → S b ≡ false → first (stop E S) p ≡ first (stop E S) q

abbrev pub Needed : List Block → (ℕ → Bool) → ℕ → Type 0
Needed g E b = (S : ℕ → Bool) → Enough g E S → S b ≡ true

-- two paths with the same last stop of G have the same last stop of a part F of G, where shorter ones have
pub same_part : (g : List Block) (F G : ℕ → Bool) (b : ℕ) (p q : List ℕ) →
    ((x : ℕ) → F x ≡ true → G x ≡ true) → IsPath g b p → IsPath g b q → first G p ≡ first G q →
    ((c : ℕ) (r s : List ℕ) → G c ≡ true → F c ≡ false → length r < length p → length s < length q → IsPath g c r → IsPath g c s → first F r ≡ first F s) →
    first F p ≡ first F q
same_part g F G b p q sub hp hq e shorter_same = go (first G p) refl
  where
    skipped : (p : List ℕ) (c : ℕ) (r : Found G p c) → F c ≡ false → first F p ≡ first F r.rest
    skipped p c r f = ap (first F) r.is ∙ first_skip F r.front (c ∷ r.rest) (avoids_part F G r.front sub r.clear) ∙ first_past F c r.rest f

    go : (o : Option ℕ) → first G p ≡ o → first F p ≡ first F q
    go None n = none_first F p (avoids_part F G p sub (first_none G p n)) ∙ sym (none_first F q (avoids_part F G q sub (first_none G q (sym e ∙ n))))
    go (Some c) n =
        let fp = found G p c n in
        let fq = found G q c (sym e ∙ n) in
        ⊎_elim
        (λ (t : F c ≡ true).
        let skip_p = first_skip F fp.front (c ∷ fp.rest) (avoids_part F G fp.front sub fp.clear) in
        let skip_q = first_skip F fq.front (c ∷ fq.rest) (avoids_part F G fq.front sub fq.clear) in
        (ap (first F) fp.is ∙ skip_p ∙ first_at F c fp.rest t) ∙ sym (ap (first F) fq.is ∙ skip_q ∙ first_at F c fq.rest t))
        (λ (f : F c ≡ false).
        let to_p = cut g b fp.front c fp.rest (subst (IsPath g b) fp.is hp) in
        let to_q = cut g b fq.front c fq.rest (subst (IsPath g b) fq.is hq) in
        skipped p c fp f ∙ shorter_same c fp.rest fq.rest fp.stops f (shorter p fp.front c fp.rest fp.is) (shorter q fq.front c fq.rest fq.is) to_p to_q ∙ sym (skipped q c fq f))
        (cases_Bool (F c))

pub stop_part : (E S R : ℕ → Bool) → ((x : ℕ) → S x ≡ true → R x ≡ true) → (x : ℕ) → stop E S x ≡ true → stop E R x ≡ true
stop_part E S R sub x h = let s = sub x in grind (arith, nat_tests)

-- the blocks that need a phi are enough
pub needed_enough : (g : List Block) (E N : ℕ → Bool) → ((b : ℕ) → (N b ≡ true) ↔ Needed g E b) → Enough g E N
needed_enough g E N is = record { same = λ b p q hp hq f. by_length P step p b q hp hq f }
  where
    P : List ℕ → Type 0
    P p = (b : ℕ) (q : List ℕ) → IsPath g b p → IsPath g b q → N b ≡ false → first (stop E N) p ≡ first (stop E N) q

    apart : (p : List ℕ) → ((r : List ℕ) → length r < length p → P r) → (b : ℕ) (q : List ℕ) → IsPath g b p → IsPath g b q →
        (first (stop E N) p ≡ first (stop E N) q → ⊥) → (S : ℕ → Bool) → Enough g E S → S b ≡ true
    apart p ih b q hp hq n S s =
        ⊎_elim (λ (t : S b ≡ true). t)
        (λ (f : S b ≡ false). absurd (n (same_part g (stop E N) (stop E S) b p q
        (stop_part E N S (λ x t. (is x).0 t S s)) hp hq (s.same b p q hp hq f)
        (λ c r t _ out k _ hr ht. ih r k c t hr ht (or_parts (E c) (N c) out).1))))
        (cases_Bool (S b))

    step : (p : List ℕ) → ((r : List ℕ) → length r < length p → P r) → P p
    step p ih b q hp hq f =
        ⊎_elim (λ (e : first (stop E N) p ≡ first (stop E N) q). e)
        (λ (n : first (stop E N) p ≡ first (stop E N) q → ⊥). absurd (both_ways (N b) f ((is b).1 (apart p ih b q hp hq n))))
        (cases_Option (first (stop E N) p) (first (stop E N) q))

-- what is enough for more events is enough for fewer
pub enough_fewer : (g : List Block) (D E S : ℕ → Bool) → ((x : ℕ) → D x ≡ true → E x ≡ true) → Enough g E S → Enough g D S
enough_fewer g D E S sub s = record { same = λ b p q hp hq f. by_length P step p b q hp hq f }
  where
    P : List ℕ → Type 0
    P p = (b : ℕ) (q : List ℕ) → IsPath g b p → IsPath g b q → S b ≡ false → first (stop D S) p ≡ first (stop D S) q

    part : (x : ℕ) → stop D S x ≡ true → stop E S x ≡ true
    part x h = let s = sub x in grind (arith, nat_tests)

    step : (p : List ℕ) → ((r : List ℕ) → length r < length p → P r) → P p
    step p ih b q hp hq f =
        same_part g (stop D S) (stop E S) b p q part hp hq (s.same b p q hp hq f)
        (λ c r t _ out k _ hr ht. ih r k c t hr ht (or_parts (D c) (S c) out).1)

-- what both have of two that are enough is enough
pub enough_both : (g : List Block) (E S R B : ℕ → Bool) → Enough g E S → Enough g E R →
    ((x : ℕ) → B x ≡ true → (S x ≡ true) × (R x ≡ true)) → ((x : ℕ) → B x ≡ false → (S x ≡ false) ⊎ (R x ≡ false)) → Enough g E B
enough_both g E S R B s r both either = record { same = λ b p q hp hq f. by_length P step p b q hp hq f }
  where
    P : List ℕ → Type 0
    P p = (b : ℕ) (q : List ℕ) → IsPath g b p → IsPath g b q → B b ≡ false → first (stop E B) p ≡ first (stop E B) q

    step : (p : List ℕ) → ((r : List ℕ) → length r < length p → P r) → P p
    step p ih b q hp hq f =
        ⊎_elim
        (λ (out : S b ≡ false). same_part g (stop E B) (stop E S) b p q (stop_part E B S (λ x t. (both x t).0)) hp hq (s.same b p q hp hq out)
        (λ c r t _ out k _ hr ht. ih r k c t hr ht (or_parts (E c) (B c) out).1))
        (λ (out : R b ≡ false). same_part g (stop E B) (stop E R) b p q (stop_part E B R (λ x t. (both x t).1)) hp hq (r.same b p q hp hq out)
        (λ c r t _ out k _ hr ht. ih r k c t hr ht (or_parts (E c) (B c) out).1))
        (either b f)
