-- On a reducible graph, phis that are enough, none of them trivial, are the fewest.
use Rattle.std.proofs.Common.{◌≡◌, ℕ, zero, suc, ◌+◌, ◌<◌, ◌≤◌, Bool, true, false, not, ◌&&◌, ◌||◌, ◌⊎◌, ◌↔◌, List, [], ◌∷◌, ◌++◌, length, Option, Some, None, refl, sym, ap, ◌∙◌, subst, inl, inr, ⊎_elim, arith, append_assoc}
use Rattle.std.proofs.lemmas.Bool.Decides.{nat_tests}
use Rattle.std.proofs.lemmas.Bool.{cases_Bool, cases_eq, cases_lt, both_ways, or_left, or_right, or_cases, or_parts, or_from, and_parts, and_cases, true_from_ne_false, false_from_ne_true, not-false}
use Rattle.ms_paths.specs.Flow.{Block, IsPath, IsReached}
use Rattle.ms_paths.proofs.First.{first, Avoids, found, first_at, first_past, first_skip, avoids_part, first_none, none_first, cut, graft, by_length}
use Rattle.ms_paths.proofs.Core.{stop, Enough, same_part, stop_part}
use Rattle.ms_paths.proofs.Order.{on, on_here, on_there, on_tail, on_back, on_front, on_avoided, Cut, cut_at, first_on, Over, no_two, Places, over_low, told}

-- every way into the block b brings b's own phi or one other event
pub record Trivial (g : List Block) (E K : ℕ → Bool) (b : ℕ) : Type 0 where
  pub other : Option ℕ
  pub each : (p : List ℕ) → IsPath g b p → (first (stop E K) p ≡ other) ⊎ ((first (stop E K) p ≡ Some b) × (E b ≡ false))

-- b is over x, and another block
pub record Under (g : List Block) (b x : ℕ) : Type 0 where
  pub over : Over g b x
  pub apart : b ≡ x → ⊥

-- what stands on a path to x behind the last place of a block over x is under that block
under_front : (g : List Block) (b x : ℕ) (u : List ℕ) (r : List ℕ) (y : ℕ) → Under g b x → IsPath g x (u ++ b ∷ r) →
    on b u ≡ false → on y u ≡ true → Under g b y × IsReached g y
under_front g b x u r y under h clear t = (
  record {
    over = record {
      passes = λ p to_y.
          let to_x = graft g x c.front y (c.rest ++ b ∷ r) p whole to_y in
          on_back b c.front (y ∷ p) not_front (on_tail b x (c.front ++ y ∷ p) (λ e. under.apart (sym e)) (under.over.passes (c.front ++ y ∷ p) to_x));
    };
    apart = λ e. both_ways (on b u) clear (subst (λ z. on z u ≡ true) (sym e) t);
  },
  (c.rest ++ b ∷ r, cut g x c.front y (c.rest ++ b ∷ r) whole),
)
  where
    c : Cut y u
    c = cut_at y u t

    whole : IsPath g x (c.front ++ y ∷ (c.rest ++ b ∷ r))
    whole = subst (IsPath g x) (ap (λ l. l ++ b ∷ r) c.is ∙ append_assoc c.front (y ∷ c.rest) (b ∷ r)) h

    not_front : on b c.front ≡ false
    not_front = false_from_ne_true (on b c.front) (λ k. both_ways (on b u) clear (subst (λ l. on b l ≡ true) (sym c.is) (on_front b c.front (y ∷ c.rest) k)))

pub first_in : (F : ℕ → Bool) (u p : List ℕ) (y : ℕ) → first F u ≡ Some y → first F (u ++ p) ≡ Some y
first_in F u p y e =
    let r = found F u y e in
    ap (λ l. first F (l ++ p)) r.is ∙ ap (first F) (append_assoc r.front (y ∷ r.rest) p) ∙ first_skip F r.front (y ∷ (r.rest ++ p)) r.clear ∙ first_at F y (r.rest ++ p) r.stops

pub first_agree : (F G : ℕ → Bool) (u : List ℕ) → ((y : ℕ) → on y u ≡ true → F y ≡ G y) → first F u ≡ first G u
first_agree F G [] same = refl
first_agree F G (x ∷ u) same =
    let s = same x (on_here x u) in
    let r = first_agree F G u (λ y t. same y (on_there y x u t)) in
    rw (s, r) refl

-- the phis of K but for those of the rest that are under one block
abbrev raise : (ℕ → Bool) → (ℕ → Bool) → (ℕ → Bool) → ℕ → Bool
raise K T D x = K x && (T x || not (D x))

record Clear (g : List Block) (E T R : ℕ → Bool) (b : ℕ) (p : List ℕ) : Type 0 where
  rest : List ℕ
  path : IsPath g b rest
  raised : first (stop E R) p ≡ Some b
  plain : first (stop E T) p ≡ first (stop E T) (b ∷ rest)

record Met (g : List Block) (E T R : ℕ → Bool) (b : ℕ) (p : List ℕ) : Type 0 where
  at : ℕ
  under : Under g b at
  raised : first (stop E R) p ≡ Some at
  plain : first (stop E T) p ≡ Some at

module _ (g : List Block) (E K T D : ℕ → Bool) (b : ℕ) (ke : Enough g E K) (te : Enough g E T) (sub : (x : ℕ) → T x ≡ true → K x ≡ true)
    (kb : K b ≡ true) (tb : T b ≡ false) (rb : IsReached g b) (is : (x : ℕ) → IsReached g x → (D x ≡ true) ↔ Under g b x) where
  raise_at : (y : ℕ) → D y ≡ true → raise K T D y ≡ T y
  raise_at y d = let s = sub y in grind (arith, nat_tests)

  raise_b : raise K T D b ≡ true
  raise_b =
      let f : D b ≡ false = false_from_ne_true (D b) (λ d. ((is b rb).0 d).apart refl) in
      grind (arith, nat_tests)

  seen : (x : ℕ) (p : List ℕ) → Under g b x → IsPath g x p → Met g E T (raise K T D) b p ⊎ Clear g E T (raise K T D) b p
  seen x p under h = go (first (stop E T) c.front) refl
    where
      c : Cut b p
      c = cut_at b p (on_tail b x p (λ e. under.apart (sym e)) (under.over.passes p h))

      path : IsPath g x (c.front ++ b ∷ c.rest)
      path = subst (IsPath g x) c.is h

      agree : first (stop E (raise K T D)) c.front ≡ first (stop E T) c.front
      agree = first_agree (stop E (raise K T D)) (stop E T) c.front (λ y t.
          let u = under_front g b x c.front c.rest y under path c.clear t in
          ap (λ v. E y || v) (raise_at y ((is y u.1).1 u.0)))

      go : (o : Option ℕ) → first (stop E T) c.front ≡ o → Met g E T (raise K T D) b p ⊎ Clear g E T (raise K T D) b p
      go None n = inr (record {
        rest = c.rest;
        path = cut g x c.front b c.rest path;
        raised = ap (first (stop E (raise K T D))) c.is
            ∙ first_skip (stop E (raise K T D)) c.front (b ∷ c.rest) (first_none (stop E (raise K T D)) c.front (agree ∙ n))
            ∙ first_at (stop E (raise K T D)) b c.rest (or_right (E b) (raise K T D b) raise_b);
        plain = ap (first (stop E T)) c.is ∙ first_skip (stop E T) c.front (b ∷ c.rest) (first_none (stop E T) c.front n);
      })
      go (Some y) n = inl (record {
        at = y;
        under = (under_front g b x c.front c.rest y under path c.clear (first_on (stop E T) c.front y n)).0;
        raised = ap (first (stop E (raise K T D))) c.is ∙ first_in (stop E (raise K T D)) c.front (b ∷ c.rest) y (agree ∙ n);
        plain = ap (first (stop E T)) c.is ∙ first_in (stop E T) c.front (b ∷ c.rest) y n;
      })

  mixed : (p q : List ℕ) → first (stop E T) p ≡ first (stop E T) q → Met g E T (raise K T D) b p → Clear g E T (raise K T D) b q → ⊥
  mixed p q e m c =
      let y_is : first (stop E T) (b ∷ c.rest) ≡ Some m.at = sym c.plain ∙ sym e ∙ m.plain in
      ⊎_elim
      (λ (t : E b ≡ true).
      let s : Some b ≡ Some m.at = sym (first_at (stop E T) b c.rest (or_left (E b) (T b) t)) ∙ y_is in
      m.under.apart (cc))
      (λ (f : E b ≡ false).
      let y_at : first (stop E T) c.rest ≡ Some m.at = sym (first_past (stop E T) b c.rest (or_from (E b) (T b) f tb)) ∙ y_is in
      no_two g b m.at (λ s hs. first_on (stop E T) s m.at (te.same b s c.rest hs c.path tb ∙ y_at)) m.under.over (λ e. m.under.apart (sym e)) c.rest c.path)
      (cases_Bool (E b))

  under_same : (x : ℕ) (p q : List ℕ) → Under g b x → T x ≡ false → IsPath g x p → IsPath g x q → first (stop E (raise K T D)) p ≡ first (stop E (raise K T D)) q
  under_same x p q under out hp hq =
      let e = te.same x p q hp hq out in
      ⊎_elim
      (λ (m : Met g E T (raise K T D) b p).
      ⊎_elim (λ (n : Met g E T (raise K T D) b q). m.raised ∙ sym m.plain ∙ e ∙ n.plain ∙ sym n.raised)
      (λ (d : Clear g E T (raise K T D) b q). absurd (mixed p q e m d)) (seen x q under hq))
      (λ (c : Clear g E T (raise K T D) b p).
      ⊎_elim (λ (n : Met g E T (raise K T D) b q). absurd (mixed q p (sym e) n c))
      (λ (d : Clear g E T (raise K T D) b q). c.raised ∙ sym d.raised) (seen x q under hq))
      (seen x p under hp)

  pub raised : Enough g E (raise K T D)
  raised = record { same = λ x p q hp hq f. by_length P step p x q hp hq f }
    where
      P : List ℕ → Type 0
      P p = (x : ℕ) (q : List ℕ) → IsPath g x p → IsPath g x q → raise K T D x ≡ false → first (stop E (raise K T D)) p ≡ first (stop E (raise K T D)) q

      step : (p : List ℕ) → ((r : List ℕ) → length r < length p → P r) → P p
      step p ih x q hp hq f =
          ⊎_elim
          (λ (out : K x ≡ false).
          same_part g (stop E (raise K T D)) (stop E K) x p q (stop_part E (raise K T D) K (λ y t. (and_parts (K y) (T y || not (D y)) t).0))
          hp hq (ke.same x p q hp hq out)
          (λ c r t _ o k _ hr ht. ih r k c t hr ht (or_parts (E c) (raise K T D c) o).1))
          (λ (out : (T x || not (D x)) ≡ false).
          let parts = or_parts (T x) (not (D x)) out in
          under_same x p q ((is x (p, hp)).0 (not-false (D x) parts.1)) parts.0 hp hq)
          (and_cases (K x) (T x || not (D x)) f)

module _ (g : List Block) (place : ℕ → ℕ) (n : ℕ) (o : Places g place n) (E K : ℕ → Bool) (ke : Enough g E K) where
  -- a phi of K that another, no higher one of K gets by a path with no other of its events is under that one
  under_by : (b c : ℕ) (u rest : List ℕ) → IsPath g b (u ++ c ∷ rest) → Avoids (stop E K) u → stop E K c ≡ true → K b ≡ true →
      (b ≡ c → ⊥) → place b ≤ place c → Under g b c
  under_by b c [] rest h clear stops kb ne le =
      ⊎_elim (λ (up : place c < place b). absurd (omega arith)) (λ (over : Over g b c). record { over = over; apart = ne })
      (o.edge c b (rest, h.1) h.0)
  under_by b c (a ∷ u) rest h clear stops kb ne le =
      ⊎_elim (λ (up : place a < place b). absurd (omega (arith, c_low)))
      (λ (over : Over g b a). record {
        over = record {
          passes = λ p to_c.
              on_back b (a ∷ u) (c ∷ p) (on_avoided (stop E K) b (a ∷ u) clear (or_right (E b) (K b) kb)) (over.passes (u ++ c ∷ p) (graft g a u c rest p h.1 to_c));
        };
        apart = ne;
      })
      (o.edge a b (u ++ c ∷ rest, h.1) h.0)
    where
      here : first (stop E K) (u ++ c ∷ rest) ≡ Some c
      here = first_skip (stop E K) u (c ∷ rest) clear.1 ∙ first_at (stop E K) c rest stops

      c_over : Over g c a
      c_over = record {
        passes = λ q to_a. on_there c a q (first_on (stop E K) q c
            (ke.same a q (u ++ c ∷ rest) to_a h.1 (or_parts (E a) (K a) clear.0).1 ∙ here));
      }

      c_low : place c ≤ place a
      c_low = ⊎_elim (λ (e : a ≡ c). rw e (omega arith)) (λ (l : place c < place a). omega arith) (over_low g place n o c a (u ++ c ∷ rest, h.1) c_over)

  -- of the phis that K has and T has not, a lowest one that is over no other is trivial
  trivial_low : (T : ℕ → Bool) → Enough g E T → ((x : ℕ) → T x ≡ true → K x ≡ true) → (b : ℕ) → K b ≡ true → T b ≡ false → IsReached g b →
      ((c : ℕ) → K c ≡ true → T c ≡ false → IsReached g c → place b ≤ place c) →
      ((c : ℕ) → K c ≡ true → T c ≡ false → IsReached g c → Under g b c → ⊥) → Trivial g E K b
  trivial_low T te sub b kb tb rb low deep = record { other = first (stop E T) rb.0; each = λ p hp. go p hp (first (stop E K) p) refl }
    where
      part : (x : ℕ) → stop E T x ≡ true → stop E K x ≡ true
      part = stop_part E T K sub

      go : (p : List ℕ) → IsPath g b p → (r : Option ℕ) → first (stop E K) p ≡ r →
          (first (stop E K) p ≡ first (stop E T) rb.0) ⊎ ((first (stop E K) p ≡ Some b) × (E b ≡ false))
      go p hp None e = inl (e ∙ sym (none_first (stop E T) p (avoids_part (stop E T) (stop E K) p part (first_none (stop E K) p e))) ∙ te.same b p rb.0 hp rb.1 tb)
      go p hp (Some c) e =
          let r = found (stop E K) p c e in
          let path = subst (IsPath g b) r.is hp in
          ⊎_elim
          (λ (t : stop E T c ≡ true).
          inl (e ∙ sym (ap (first (stop E T)) r.is ∙ first_skip (stop E T) r.front (c ∷ r.rest) (avoids_part (stop E T) (stop E K) r.front part r.clear) ∙ first_at (stop E T) c r.rest t)
          ∙ te.same b p rb.0 hp rb.1 tb))
          (λ (f : stop E T c ≡ false).
          let out = or_parts (E c) (T c) f in
          ⊎_elim (λ (s : b ≡ c). inr (e ∙ ap Some (sym s), subst (λ y. E y ≡ false) (sym s) out.0))
          (λ (ne : b ≡ c → ⊥).
          let kc : K c ≡ true = ⊎_elim (λ (t : E c ≡ true). absurd (both_ways (E c) out.0 t)) (λ (t : K c ≡ true). t) (or_cases (E c) (K c) r.stops) in
          let rc = cut g b r.front c r.rest path in
          let le = low c kc out.1 (r.rest, rc) in
          absurd (deep c kc out.1 (r.rest, rc) (under_by b c r.front r.rest path r.clear r.stops kb ne le)))
          (cases_eq b c))
          (cases_Bool (stop E T c))

  Least : ℕ → Type 0
  Least j = (T : ℕ → Bool) → Enough g E T → ((x : ℕ) → T x ≡ true → K x ≡ true) →
      ((x : ℕ) → K x ≡ true → T x ≡ false → IsReached g x × (Trivial g E K x → ⊥)) →
      ((x : ℕ) → K x ≡ true → T x ≡ false → n ≤ place x + j) → (x : ℕ) → K x ≡ true → T x ≡ true

  module _ (m : ℕ) (within : (x : ℕ) → IsReached g x → x < m) where
    none_low : (j : ℕ) → Least j → (T : ℕ → Bool) → Enough g E T → ((x : ℕ) → T x ≡ true → K x ≡ true) →
        ((x : ℕ) → K x ≡ true → T x ≡ false → IsReached g x × (Trivial g E K x → ⊥)) →
        ((x : ℕ) → K x ≡ true → T x ≡ false → n ≤ place x + suc j) →
        (b : ℕ) → K b ≡ true → T b ≡ false → place b + j < n → ⊥
    unfolding Least
    none_low j ih T te sub real low b kb tb lt = told (λ x. Under g b x) m with_test
      where
        with_test : (D : ℕ → Bool) → ((x : ℕ) → x < m → (D x ≡ true) ↔ Under g b x) → ⊥
        with_test D near = (real b kb tb).1 (trivial_low T te sub b kb tb (real b kb tb).0
            (λ c kc tc rc. let l = low c kc tc in omega arith)
            (λ c kc tc rc u. both_ways (T c) tc (sym (raise_at g E K T D b ke te sub kb tb (real b kb tb).0 is c ((is c rc).1 u)) ∙ all c kc)))
          where
            is : (x : ℕ) → IsReached g x → (D x ≡ true) ↔ Under g b x
            is x rx = near x (within x rx)

            still : (x : ℕ) → K x ≡ true → raise K T D x ≡ false → (T x ≡ false) × (D x ≡ true)
            still x kx f = (grind (arith, nat_tests), grind (arith, nat_tests))

            higher : (x : ℕ) → K x ≡ true → raise K T D x ≡ false → n ≤ place x + j
            higher x kx f =
                let s = still x kx f in
                let rx = (real x kx s.0).0 in
                let u = (is x rx).0 s.1 in
                let l = low b kb tb in
                ⊎_elim (λ (e : x ≡ b). absurd (u.apart (sym e))) (λ (h : place b < place x). omega arith) (over_low g place n o b x rx u.over)

            all : (x : ℕ) → K x ≡ true → raise K T D x ≡ true
            all = ih (raise K T D) (raised g E K T D b ke te sub kb tb (real b kb tb).0 is) (λ x r. (and_parts (K x) (T x || not (D x)) r).0)
                (λ x kx f. real x kx (still x kx f).0) higher

    least_by : (j : ℕ) → Least j
    unfolding Least
    least_by zero T te sub real low x kx =
        true_from_ne_false (T x) (λ f. let l = low x kx f in let h = o.low x (real x kx f).0 in absurd (omega arith))
    least_by (suc j) T te sub real low x kx =
        least_by j T te sub real
        (λ y ky f. ⊎_elim (λ (h : place y + j < n). absurd (none_low j (least_by j) T te sub real low y ky f h)) (λ (h : n ≤ place y + j). h) (cases_lt (place y + j) n))
        x kx

    -- phis that are enough, and none of the rest trivial, are all in each part that is enough
    pub least : (T : ℕ → Bool) → Enough g E T → ((x : ℕ) → T x ≡ true → K x ≡ true) →
        ((x : ℕ) → K x ≡ true → T x ≡ false → IsReached g x × (Trivial g E K x → ⊥)) → (x : ℕ) → K x ≡ true → T x ≡ true
    unfolding Least
    least T te sub real x kx = least_by n T te sub real (λ y ky f. omega arith) x kx
