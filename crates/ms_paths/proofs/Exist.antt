-- There is a test that holds of exactly the blocks that need a phi.
use Rattle.std.proofs.Common.{◌≡◌, ℕ, zero, suc, ◌+◌, ◌<◌, ◌≤◌, Bool, true, false, ◌||◌, eqb, ◌⊎◌, ◌↔◌, List, [], ◌∷◌, ◌++◌, length, None, refl, sym, ◌∙◌, subst, inl, inr, ⊎_elim, arith}
use Rattle.std.specs.List.{IsDistinct, AllByRecursion, list_any}
use Rattle.std.proofs.lemmas.Map.Steps.{length-le_from_distinct_below}
use Rattle.std.proofs.lemmas.Bool.{cases_Bool, cases_eq, both_ways, or_left, or_right, or_cases, or_parts, true_from_ne_false, eqb-true, eqb-false, eq-eqb, ne_eqb}
use Rattle.ms_paths.specs.Flow.{Block, block_at, HasEdge, IsPath, IsClosed}
use Rattle.ms_paths.proofs.First.{first, first_at, first_past, cases_Option, cut}
use Rattle.ms_paths.proofs.Core.{stop, Enough, Needed, same_part, stop_part}
use Rattle.ms_paths.proofs.Order.{on, cut_at}
use Rattle.ms_paths.proofs.Reduce.{contains_on, on_contains, reached_in, count, count_below, count_less}

-- a search below n
some_below : (P : ℕ → Type 0) (n : ℕ) → ((x : ℕ) → P x ⊎ (P x → ⊥)) → ((x : ℕ) × (x < n) × P x) ⊎ ((x : ℕ) → x < n → P x → ⊥)
some_below P zero told = inr (λ x l p. absurd (omega arith))
some_below P (suc n) told =
    ⊎_elim (λ (s : (x : ℕ) × (x < n) × P x). let l : s.0 < n = s.1 in inl (s.0, omega arith, s.2))
    (λ (none : (x : ℕ) → x < n → P x → ⊥).
    ⊎_elim (λ (p : P n). inl (n, omega arith, p))
    (λ (not_n : P n → ⊥). inr (λ x l p. ⊎_elim (λ (e : x ≡ n). not_n (subst P e p)) (λ (m : x ≡ n → ⊥). none x (omega arith) p) (cases_eq x n)))
    (told n))
    (some_below P n told)

-- a path with no block twice
distinct_back : (u r : List ℕ) → IsDistinct eqb (u ++ r) → IsDistinct eqb r
unfolding IsDistinct
distinct_back [] r d = d
distinct_back (x ∷ u) r d = distinct_back u r d.1

apart_from : (b : ℕ) (p : List ℕ) → on b p ≡ false → AllByRecursion (λ y. eqb b y ≡ false) p
apart_from b [] f = tt
apart_from b (x ∷ p) f =
    let n = or_parts (eqb x b) (on b p) f in
    (ne_eqb b x (λ e. eqb-false x b n.0 (sym e)), apart_from b p n.1)

simple : (g : List Block) (p : List ℕ) (b : ℕ) → IsPath g b p → (q : List ℕ) × IsPath g b q × IsDistinct eqb (b ∷ q)
unfolding IsDistinct
simple g [] b h = ([], h, (tt, tt))
simple g (a ∷ p) b h =
    let r = simple g p a h.1 in
    ⊎_elim
    (λ (t : on b (a ∷ r.0) ≡ true).
    let c = cut_at b (a ∷ r.0) t in
    let whole : IsPath g b (a ∷ r.0) = (h.0, r.1) in
    (c.rest, cut g b c.front b c.rest (subst (IsPath g b) c.is whole), distinct_back c.front (b ∷ c.rest) (subst (IsDistinct eqb) c.is r.2)))
    (λ (f : on b (a ∷ r.0) ≡ false). (a ∷ r.0, (h.0, r.1), (apart_from b (a ∷ r.0) f, r.2)))
    (cases_Bool (on b (a ∷ r.0)))

module _ (g : List Block) (closed : IsClosed g) where
  on_path : (p : List ℕ) (b x : ℕ) → IsPath g b p → list_any (eqb x) (b ∷ p) ≡ true → x < length g
  on_path p b x h t =
      ⊎_elim (λ (e : eqb x b ≡ true). subst (λ y. y < length g) (sym (eqb-true x b e)) (reached_in g closed b (p, h))) (λ (s : list_any (eqb x) p ≡ true). later p b h s)
      (or_cases (eqb x b) (list_any (eqb x) p) t)
    where
      later : (p : List ℕ) (b : ℕ) → IsPath g b p → list_any (eqb x) p ≡ true → x < length g
      later [] b h s = absurd (both_ways false refl s)
      later (a ∷ p) b h s =
          ⊎_elim (λ (e : eqb x a ≡ true). subst (λ y. y < length g) (sym (eqb-true x a e)) (reached_in g closed a (p, h.1))) (λ (r : list_any (eqb x) p ≡ true). later p a h.1 r)
          (or_cases (eqb x a) (list_any (eqb x) p) s)

  short : (p : List ℕ) (b : ℕ) → IsPath g b p → (q : List ℕ) × IsPath g b q × (length q ≤ length g)
  short p b h =
      let r = simple g p b h in
      let l = length-le_from_distinct_below (b ∷ r.0) (length g) r.2 (λ x t. on_path r.0 b x r.1 t) in
      (r.0, r.1, omega arith)

  abbrev Near : ℕ → ℕ → Type 0
  Near k b = (p : List ℕ) × IsPath g b p × (length p ≤ k)

  edge_or_not : (a b : ℕ) → HasEdge g a b ⊎ (HasEdge g a b → ⊥)
  edge_or_not a b =
      ⊎_elim (λ (t : on b (block_at g a).next ≡ true). inl (on_contains b (block_at g a).next t))
      (λ (f : on b (block_at g a).next ≡ false). inr (λ e. both_ways (on b (block_at g a).next) f (contains_on b (block_at g a).next e)))
      (cases_Bool (on b (block_at g a).next))

  near : (k b : ℕ) → Near k b ⊎ (Near k b → ⊥)
  near zero b =
      ⊎_elim (λ (e : b ≡ 0). inl ([], e, omega arith)) (λ (n : b ≡ 0 → ⊥). inr (λ s. none s.0 s.1 s.2 n)) (cases_eq b 0)
    where
      none : (p : List ℕ) → IsPath g b p → length p ≤ 0 → (b ≡ 0 → ⊥) → ⊥
      none [] h l n = n h
      none (a ∷ p) h l n = omega arith
  near (suc k) b =
      ⊎_elim (λ (e : b ≡ 0). inl ([], e, omega arith))
      (λ (n : b ≡ 0 → ⊥).
      ⊎_elim (λ (s : (a : ℕ) × (a < length g) × (HasEdge g a b × Near k a)). let l = s.2.1.2 in inl (s.0 ∷ s.2.1.0, (s.2.0, s.2.1.1), omega arith))
      (λ (none : (a : ℕ) → a < length g → HasEdge g a b × Near k a → ⊥). inr (λ s. no_way n none s.0 s.1 s.2))
      (some_below (λ a. HasEdge g a b × Near k a) (length g) (λ a. both a (near k a) (edge_or_not a b))))
      (cases_eq b 0)
    where
      both : (a : ℕ) → Near k a ⊎ (Near k a → ⊥) → HasEdge g a b ⊎ (HasEdge g a b → ⊥) → (HasEdge g a b × Near k a) ⊎ (HasEdge g a b × Near k a → ⊥)
      both a (inl s) (inl e) = inl (e, s)
      both a (inl s) (inr n) = inr (λ v. n v.0)
      both a (inr n) e = inr (λ v. n v.1)

      no_way : (b ≡ 0 → ⊥) → ((a : ℕ) → a < length g → HasEdge g a b × Near k a → ⊥) → (p : List ℕ) → IsPath g b p → length p ≤ suc k → ⊥
      no_way n none [] h l = n h
      no_way n none (a ∷ p) h l = none a (reached_in g closed a (p, h.1)) (h.0, (p, h.1, omega arith))

  module _ (E : ℕ → Bool) where
    abbrev Agree : (ℕ → Bool) → ℕ → Type 0
    Agree T k = (b : ℕ) (p q : List ℕ) → IsPath g b p → IsPath g b q → T b ≡ false → length p ≤ k → length q ≤ k → first (stop E T) p ≡ first (stop E T) q

    same_step : (T : ℕ → Bool) (a : ℕ) (p q : List ℕ) → (T a ≡ false → first (stop E T) p ≡ first (stop E T) q) → first (stop E T) (a ∷ p) ≡ first (stop E T) (a ∷ q)
    same_step T a p q same =
        ⊎_elim (λ (t : stop E T a ≡ true). first_at (stop E T) a p t ∙ sym (first_at (stop E T) a q t))
        (λ (f : stop E T a ≡ false). first_past (stop E T) a p f ∙ same (or_parts (E a) (T a) f).1 ∙ sym (first_past (stop E T) a q f))
        (cases_Bool (stop E T a))

    -- two short paths to a block with no phi that differ
    record Differ (T : ℕ → Bool) (k b : ℕ) : Type 0 where
      out : T b ≡ false
      one : List ℕ
      two : List ℕ
      to_one : IsPath g b one
      to_two : IsPath g b two
      short_one : length one ≤ k
      short_two : length two ≤ k
      differ : first (stop E T) one ≡ first (stop E T) two → ⊥

    -- a block before b by which a path of this length differs from q
    abbrev Bad : (ℕ → Bool) → ℕ → ℕ → List ℕ → ℕ → Type 0
    Bad T k b q a = HasEdge g a b × (p : List ℕ) × IsPath g a p × (length p ≤ k) × (first (stop E T) (a ∷ p) ≡ first (stop E T) q → ⊥)

    differ_or_not : (T : ℕ → Bool) (k b : ℕ) → Agree T k → Differ T (suc k) b ⊎ (Differ T (suc k) b → ⊥)
    differ_or_not T k b agree =
        ⊎_elim (λ (t : T b ≡ true). inr (λ d. both_ways (T b) d.out t))
        (λ (f : T b ≡ false).
        ⊎_elim (λ (s : Near (suc k) b). against f s.0 s.1 s.2) (λ (n : Near (suc k) b → ⊥). inr (λ d. n (d.one, d.to_one, d.short_one))) (near (suc k) b))
        (cases_Bool (T b))
      where
        against : T b ≡ false → (q : List ℕ) → IsPath g b q → length q ≤ suc k → Differ T (suc k) b ⊎ (Differ T (suc k) b → ⊥)
        against f q hq lq =
            ⊎_elim
            (λ (s : (a : ℕ) × (a < length g) × Bad T k b q a). inl (of_bad s.0 s.2))
            (λ (none : (a : ℕ) → a < length g → Bad T k b q a → ⊥).
            ⊎_elim
            (λ (e : b ≡ 0).
            ⊎_elim (λ (same : None ≡ first (stop E T) q). inr (λ d. d.differ (each none (λ z. same) d.one d.to_one d.short_one ∙ sym (each none (λ z. same) d.two d.to_two d.short_two))))
            (λ (n : None ≡ first (stop E T) q → ⊥). inl (record { out = f; one = []; two = q; to_one = e; to_two = hq; short_one = omega arith; short_two = lq; differ = n }))
            (cases_Option None (first (stop E T) q)))
            (λ (n : b ≡ 0 → ⊥). inr (λ d. d.differ (each none (λ z. absurd (n z)) d.one d.to_one d.short_one ∙ sym (each none (λ z. absurd (n z)) d.two d.to_two d.short_two))))
            (cases_eq b 0))
            (some_below (Bad T k b q) (length g) bad_or_not)
          where
            of_bad : (a : ℕ) → Bad T k b q a → Differ T (suc k) b
            of_bad a s = let l : length s.1 ≤ k = s.3 in
                record { out = f; one = a ∷ s.1; two = q; to_one = (s.0, s.2); to_two = hq; short_one = omega arith; short_two = lq; differ = s.4 }

            bad_or_not : (a : ℕ) → Bad T k b q a ⊎ (Bad T k b q a → ⊥)
            bad_or_not a =
                ⊎_elim
                (λ (e : HasEdge g a b).
                ⊎_elim
                (λ (s : Near k a).
                ⊎_elim
                (λ (same : first (stop E T) (a ∷ s.0) ≡ first (stop E T) q).
                inr (λ v. v.4 (same_step T a v.1 s.0 (λ o. agree a v.1 s.0 v.2 s.1 o v.3 s.2) ∙ same)))
                (λ (n : first (stop E T) (a ∷ s.0) ≡ first (stop E T) q → ⊥). inl (e, s.0, s.1, s.2, n))
                (cases_Option (first (stop E T) (a ∷ s.0)) (first (stop E T) q)))
                (λ (n : Near k a → ⊥). inr (λ v. n (v.1, v.2, v.3)))
                (near k a))
                (λ (n : HasEdge g a b → ⊥). inr (λ v. n v.0))
                (edge_or_not a b)

            each : ((a : ℕ) → a < length g → Bad T k b q a → ⊥) → (b ≡ 0 → None ≡ first (stop E T) q) → (p : List ℕ) → IsPath g b p → length p ≤ suc k → first (stop E T) p ≡ first (stop E T) q
            each none at_entry [] h l = at_entry h
            each none at_entry (a ∷ p) h l =
                ⊎_elim (λ (e : first (stop E T) (a ∷ p) ≡ first (stop E T) q). e)
                (λ (n : first (stop E T) (a ∷ p) ≡ first (stop E T) q → ⊥). absurd (none a (reached_in g closed a (p, h.1)) (h.0, p, h.1, omega arith, n)))
                (cases_Option (first (stop E T) (a ∷ p)) (first (stop E T) q))

    -- the first to differ need a phi
    differ_needed : (T : ℕ → Bool) (k b : ℕ) → ((x : ℕ) → T x ≡ true → Needed g E x) → Agree T k → Differ T (suc k) b → Needed g E b
    differ_needed T k b sound agree d = λ S s.
        true_from_ne_false (S b) (λ f. d.differ (same_part g (stop E T) (stop E S) b d.one d.two (stop_part E T S (λ x t. sound x t S s)) d.to_one d.to_two
        (s.same b d.one d.two d.to_one d.to_two f)
        (λ c r t _ o lr lt hr ht.
        let l1 = d.short_one in let l2 = d.short_two in
        agree c r t hr ht (or_parts (E c) (T c) o).1 (omega arith) (omega arith))))

    -- a block outside T that needs a phi
    abbrev Missing : (ℕ → Bool) → Type 0
    Missing T = (b : ℕ) × (T b ≡ false) × (b < length g) × Needed g E b

    rounds : (T : ℕ → Bool) → ((x : ℕ) → T x ≡ true → Needed g E x) → (k : ℕ) → Agree T k ⊎ Missing T
    rounds T sound zero = inl (λ b p q hp hq f lp lq. alike p q lp lq)
      where
        alike : (p q : List ℕ) → length p ≤ 0 → length q ≤ 0 → first (stop E T) p ≡ first (stop E T) q
        alike [] [] lp lq = refl
        alike [] (y ∷ q) lp lq = absurd (omega arith)
        alike (x ∷ p) q lp lq = absurd (omega arith)
    rounds T sound (suc k) =
        ⊎_elim
        (λ (agree : Agree T k).
        ⊎_elim
        (λ (s : (b : ℕ) × (b < length g) × Differ T (suc k) b). inr (s.0, s.2.out, s.1, differ_needed T k s.0 sound agree s.2))
        (λ (none : (b : ℕ) → b < length g → Differ T (suc k) b → ⊥). inl (λ b p q hp hq f lp lq.
        ⊎_elim (λ (e : first (stop E T) p ≡ first (stop E T) q). e)
        (λ (n : first (stop E T) p ≡ first (stop E T) q → ⊥).
        absurd (none b (reached_in g closed b (p, hp)) (record { out = f; one = p; two = q; to_one = hp; to_two = hq; short_one = lp; short_two = lq; differ = n })))
        (cases_Option (first (stop E T) p) (first (stop E T) q))))
        (some_below (Differ T (suc k)) (length g) (λ b. differ_or_not T k b agree)))
        (λ (m : Missing T). inr m)
        (rounds T sound k)

    agree_enough : (T : ℕ → Bool) → Agree T (suc (length g)) → Enough g E T
    agree_enough T agree = record { same = λ b p q hp hq f. let s = short p b hp in to_short p b hp f s.0 s.1 s.2 ∙ sym (to_short q b hq f s.0 s.1 s.2) }
      where
        to_short : (p : List ℕ) (b : ℕ) → IsPath g b p → T b ≡ false → (q : List ℕ) → IsPath g b q → length q ≤ length g → first (stop E T) p ≡ first (stop E T) q
        to_short [] b h f q hq l = agree b [] q h hq f (omega arith) (omega arith)
        to_short (a ∷ p) b h f q hq l =
            let s = short p a h.1 in
            let ls = s.2 in
            same_step T a p s.0 (λ o. to_short p a h.1 o s.0 s.1 s.2) ∙ agree b (a ∷ s.0) q (h.0, s.1) hq f (omega arith) (omega arith)

    grow : (fuel : ℕ) (T : ℕ → Bool) → ((x : ℕ) → T x ≡ true → Needed g E x) → length g < count (length g) T + fuel →
        (N : ℕ → Bool) × ((b : ℕ) → (N b ≡ true) ↔ Needed g E b)
    grow zero T sound l = let m = count_below (length g) T in absurd (omega arith)
    grow (suc fuel) T sound l =
        ⊎_elim
        (λ (agree : Agree T (suc (length g))). (T, λ b. (sound b, λ n. n T (agree_enough T agree))))
        (λ (m : Missing T).
        let more = count_less (length g) T (λ x. eqb x m.0 || T x) m.0 (λ x h t. or_right (eqb x m.0) (T x) t) m.2 m.1 (or_left (eqb m.0 m.0) (T m.0) (eq-eqb m.0 m.0 refl)) in
        grow fuel (λ x. eqb x m.0 || T x)
        (λ x t. ⊎_elim (λ (e : eqb x m.0 ≡ true). subst (Needed g E) (sym (eqb-true x m.0 e)) m.3) (λ (s : T x ≡ true). sound x s) (or_cases (eqb x m.0) (T x) t))
        (omega arith))
        (rounds T sound (suc (length g)))

    pub needed_told : (N : ℕ → Bool) × ((b : ℕ) → (N b ≡ true) ↔ Needed g E b)
    needed_told = grow (suc (length g)) (λ x. false) (λ x t. absurd (both_ways false refl t)) (omega arith)
