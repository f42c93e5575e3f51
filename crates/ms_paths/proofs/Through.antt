-- Phis behind a block that lies on every path.
use Rattle.std.proofs.Common.{arith, ◌≡◌, ℕ, ◌<◌, Bool, true, false, not, ◌||◌, ◌⊎◌, ◌↔◌, List, [], ◌∷◌, ◌++◌, length, Option, Some, None, refl, sym, ap, ◌∙◌, subst, inl, inr, ⊎_elim, append_assoc}
use Rattle.std.proofs.lemmas.Bool.Decides.{nat_tests}
use Rattle.std.proofs.lemmas.Bool.{cases_Bool, both_ways, or_cases, or_parts, true_from_ne_false, false_from_ne_true, not-true, not-false}
use Rattle.ms_paths.specs.Flow.{Block, IsPath, IsReached}
use Rattle.ms_paths.proofs.First.{first, Avoids, Found, found, first_at, first_past, first_skip, first_none, cut, graft, shorter, by_length}
use Rattle.ms_paths.proofs.Core.{stop, Enough, Needed}
use Rattle.ms_paths.proofs.Order.{on, cut_at, first_on, told}
use Rattle.ms_paths.proofs.Least.{first_in, first_agree}

pub avoids_both : (Q : ℕ → Bool) (u v : List ℕ) → Avoids Q u → Avoids Q v → Avoids Q (u ++ v)
avoids_both Q [] v a b = b
avoids_both Q (x ∷ u) v a b = (a.0, avoids_both Q u v a.1 b)

pub avoids_parts : (Q : ℕ → Bool) (u v : List ℕ) → Avoids Q (u ++ v) → Avoids Q u × Avoids Q v
avoids_parts Q [] v a = (tt, a)
avoids_parts Q (x ∷ u) v a = let r = avoids_parts Q u v a.1 in ((a.0, r.0), r.1)

-- every path to the start of x has a block that passes
pub record Through (g : List Block) (Q : ℕ → Bool) (x : ℕ) : Type 0 where
  pub passes : (p : List ℕ) → IsPath g x p → Avoids Q p → ⊥

-- so has every path to a block from which one comes to x past none that passes
pub through_front : (g : List Block) (Q : ℕ → Bool) (x : ℕ) (u : List ℕ) (z : ℕ) (r : List ℕ) → Through g Q x → IsPath g x (u ++ z ∷ r) → Avoids Q u → Q z ≡ false → Through g Q z
through_front g Q x u z r t h a n = record { passes = λ p hp b. t.passes (u ++ z ∷ p) (graft g x u z r p h hp) (avoids_both Q u (z ∷ p) a (n, b)) }

-- a path to a block that passes, past no other, where there is one such block
pub fresh : (g : List Block) (Q : ℕ → Bool) → ((x y : ℕ) → Q x ≡ true → Q y ≡ true → x ≡ y) → (y : ℕ) → Q y ≡ true → (p : List ℕ) → IsPath g y p → (w : List ℕ) × IsPath g y w × Avoids Q w
fresh g Q one y q p h = by_length P step p h
  where
    P : List ℕ → Type 0
    P p = IsPath g y p → (w : List ℕ) × IsPath g y w × Avoids Q w

    step : (p : List ℕ) → ((r : List ℕ) → length r < length p → P r) → P p
    step p ih h = go (first Q p) refl
      where
        go : (o : Option ℕ) → first Q p ≡ o → (w : List ℕ) × IsPath g y w × Avoids Q w
        go None e = (p, h, first_none Q p e)
        go (Some c) e =
            let r = found Q p c e in
            let to_c = cut g y r.front c r.rest (subst (IsPath g y) r.is h) in
            ih r.rest (shorter p r.front c r.rest r.is) (subst (λ z. IsPath g z r.rest) (one c y r.stops q) to_c)

-- S, and each block but those of R
abbrev widened : (ℕ → Bool) → (ℕ → Bool) → ℕ → Bool
widened S R x = S x || not (R x)

record Met (g : List Block) (F W Q : ℕ → Bool) (p : List ℕ) : Type 0 where
  at : ℕ
  through : Through g Q at
  other : Q at ≡ false
  wide : first W p ≡ Some at
  plain : first F p ≡ Some at

record Clear (g : List Block) (F W Q : ℕ → Bool) (p : List ℕ) : Type 0 where
  front : List ℕ
  at : ℕ
  rest : List ℕ
  is : p ≡ front ++ at ∷ rest
  clear : Avoids F front
  passes : Q at ≡ true
  wide : first W p ≡ Some at

module _ (g : List Block) (A B Q : ℕ → Bool) (one : (x y : ℕ) → Q x ≡ true → Q y ≡ true → x ≡ y)
    (same : (x : ℕ) → IsReached g x → Through g Q x → Q x ≡ false → A x ≡ B x)
    (S R : ℕ → Bool) (s : Enough g A S) (is : (x : ℕ) → IsReached g x → (R x ≡ true) ↔ Through g Q x) where
  alike : (z : ℕ) → A z ≡ B z → R z ≡ true → stop B (widened S R) z ≡ stop A S z
  alike z n r = grind (arith, nat_tests)

  -- a block that passes is widened by
  stops_there : (y : ℕ) → Q y ≡ true → IsReached g y → stop B (widened S R) y ≡ true
  stops_there y q r =
      let out = false_from_ne_true (R y) (λ t. let w = fresh g Q one y q r.0 r.1 in ((is y r).0 t).passes w.0 w.1 w.2) in
      grind (arith, nat_tests)

  seen : (x : ℕ) (p : List ℕ) → Through g Q x → IsPath g x p → Met g (stop A S) (stop B (widened S R)) Q p ⊎ Clear g (stop A S) (stop B (widened S R)) Q p
  seen x p through h = go (first Q p) refl
    where
      go : (o : Option ℕ) → first Q p ≡ o → Met g (stop A S) (stop B (widened S R)) Q p ⊎ Clear g (stop A S) (stop B (widened S R)) Q p
      go None e = absurd (through.passes p h (first_none Q p e))
      go (Some y) e = further (first (stop A S) c.front) refl
        where
          c : Found Q p y
          c = found Q p y e

          path : IsPath g x (c.front ++ y ∷ c.rest)
          path = subst (IsPath g x) c.is h

          inner : (z : ℕ) → on z c.front ≡ true → Through g Q z × IsReached g z × (Q z ≡ false)
          inner z t =
              let d = cut_at z c.front t in
              let whole = subst (IsPath g x) (ap (λ l. l ++ y ∷ c.rest) d.is ∙ append_assoc d.front (z ∷ d.rest) (y ∷ c.rest)) path in
              let a = avoids_parts Q d.front (z ∷ d.rest) (subst (Avoids Q) d.is c.clear) in
              (through_front g Q x d.front z (d.rest ++ y ∷ c.rest) through whole a.0 a.1.0, (d.rest ++ y ∷ c.rest, cut g x d.front z (d.rest ++ y ∷ c.rest) whole), a.1.0)

          agree : first (stop B (widened S R)) c.front ≡ first (stop A S) c.front
          agree = first_agree (stop B (widened S R)) (stop A S) c.front (λ z t. let i = inner z t in alike z (same z i.1 i.0 i.2) ((is z i.1).1 i.0))

          further : (o : Option ℕ) → first (stop A S) c.front ≡ o → Met g (stop A S) (stop B (widened S R)) Q p ⊎ Clear g (stop A S) (stop B (widened S R)) Q p
          further None n = inr (record {
            front = c.front;
            at = y;
            rest = c.rest;
            is = c.is;
            clear = first_none (stop A S) c.front n;
            passes = c.stops;
            wide = ap (first (stop B (widened S R))) c.is
                ∙ first_skip (stop B (widened S R)) c.front (y ∷ c.rest) (first_none (stop B (widened S R)) c.front (agree ∙ n))
                ∙ first_at (stop B (widened S R)) y c.rest (stops_there y c.stops (c.rest, cut g x c.front y c.rest path));
          })
          further (Some z) n =
              let i = inner z (first_on (stop A S) c.front z n) in
              inl (record {
                at = z;
                through = i.0;
                other = i.2;
                wide = ap (first (stop B (widened S R))) c.is ∙ first_in (stop B (widened S R)) c.front (y ∷ c.rest) z (agree ∙ n);
                plain = ap (first (stop A S)) c.is ∙ first_in (stop A S) c.front (y ∷ c.rest) z n;
              })

  mixed : (x : ℕ) (p q : List ℕ) → S x ≡ false → IsPath g x p → IsPath g x q → Met g (stop A S) (stop B (widened S R)) Q p → Clear g (stop A S) (stop B (widened S R)) Q q → ⊥
  mixed x p q out hp hq m c =
      let path = subst (IsPath g x) c.is hq in
      let w = fresh g Q one c.at c.passes c.rest (cut g x c.front c.at c.rest path) in
      let same = s.same x p (c.front ++ c.at ∷ w.0) hp (graft g x c.front c.at c.rest w.0 path w.1) out in
      let here : first (stop A S) (c.at ∷ w.0) ≡ Some m.at = sym (first_skip (stop A S) c.front (c.at ∷ w.0) c.clear) ∙ sym same ∙ m.plain in
      ⊎_elim
      (λ (t : stop A S c.at ≡ true).
      let k : Some c.at ≡ Some m.at = sym (first_at (stop A S) c.at w.0 t) ∙ here in
      let k' : c.at ≡ m.at = cc in
      both_ways (Q m.at) m.other (subst (λ z. Q z ≡ true) k' c.passes))
      (λ (f : stop A S c.at ≡ false).
      let r = found (stop A S) w.0 m.at (sym (first_past (stop A S) c.at w.0 f) ∙ here) in
      let a = avoids_parts Q r.front (m.at ∷ r.rest) (subst (Avoids Q) r.is w.2) in
      m.through.passes r.rest (cut g c.at r.front m.at r.rest (subst (IsPath g c.at) r.is w.1)) a.1.1)
      (cases_Bool (stop A S c.at))

  pub through_enough : Enough g B (widened S R)
  through_enough = record {
    same = λ x p q hp hq f.
        let out = or_parts (S x) (not (R x)) f in
        let t = (is x (p, hp)).0 (not-false (R x) out.1) in
        ⊎_elim
        (λ (m : Met g (stop A S) (stop B (widened S R)) Q p).
        ⊎_elim (λ (n : Met g (stop A S) (stop B (widened S R)) Q q). m.wide ∙ sym m.plain ∙ s.same x p q hp hq out.0 ∙ n.plain ∙ sym n.wide)
        (λ (d : Clear g (stop A S) (stop B (widened S R)) Q q). absurd (mixed x p q out.0 hp hq m d)) (seen x q t hq))
        (λ (c : Clear g (stop A S) (stop B (widened S R)) Q p).
        ⊎_elim (λ (n : Met g (stop A S) (stop B (widened S R)) Q q). absurd (mixed x q p out.0 hq hp n c))
        (λ (d : Clear g (stop A S) (stop B (widened S R)) Q q). c.wide ∙ ap Some (one c.at d.at c.passes d.passes) ∙ sym d.wide) (seen x q t hq))
        (seen x p t hp);
  }

-- behind the block that passes, where each path to a block has it, the same blocks need a phi for events that are the same there
pub through_needed : (g : List Block) (A B Q : ℕ → Bool) → ((x y : ℕ) → Q x ≡ true → Q y ≡ true → x ≡ y) →
    ((x : ℕ) → IsReached g x → Through g Q x → Q x ≡ false → A x ≡ B x) →
    (m : ℕ) → ((x : ℕ) → IsReached g x → x < m) → (b : ℕ) → IsReached g b → Through g Q b → Needed g B b → Needed g A b
through_needed g A B Q one same m within b rb t need = λ S s.
    true_from_ne_false (S b) (λ f. told (λ x. Through g Q x) m (λ R near.
    let is : (x : ℕ) → IsReached g x → (R x ≡ true) ↔ Through g Q x = λ x rx. near x (within x rx) in
    ⊎_elim (λ (k : S b ≡ true). both_ways (S b) f k) (λ (k : not (R b) ≡ true). both_ways (R b) (not-true (R b) k) ((is b rb).1 t))
    (or_cases (S b) (not (R b)) (need (widened S R) (through_enough g A B Q one same S R s is)))))
