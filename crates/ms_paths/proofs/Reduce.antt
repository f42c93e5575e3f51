-- A reducible graph has an order in which each edge goes up, or back to a block over the one it leaves.
use Rattle.std.proofs.Common.{◌≡◌, ℕ, zero, suc, ◌+◌, ◌<◌, ◌≤◌, Bool, true, false, cond, eqb, ◌⊎◌, ◌↔◌, List, [], ◌∷◌, ◌++◌, length, get_or, refl, sym, ap, ◌∙◌, subst, inl, inr, ⊎_elim, arith}
use Rattle.std.specs.Prelude.{Contains}
use Rattle.std.specs.List.{IsDistinct, AllByRecursion}
use Rattle.std.proofs.lemmas.Bool.{cases_Bool, cases_eq, cases_lt, both_ways, or_left, eqb-false, eq-eqb, ne_eqb, true_from_ne_false, false_from_ne_true}
use Rattle.ms_paths.specs.Flow.{Block, HasEdge, IsPath, IsReached, IsOnEveryPath, IsWalk, IsReducible, IsClosed, IsOrder}
use Rattle.ms_paths.proofs.Order.{on, on_here, on_there, on_cases, on_tail, on_behind, Cut, cut_at, Over, Places, told}

on_at : (h : ℕ) (p : List ℕ) (k : ℕ) → k < length p → get_or p k h ≡ h → on h p ≡ true
on_at h [] k l e = absurd (omega arith)
on_at h (x ∷ p) zero l e = or_left (eqb x h) (on h p) (eq-eqb x h e)
on_at h (x ∷ p) (suc k) l e = on_there h x p (on_at h p k (omega arith) e)

pub contains_on : (h : ℕ) (p : List ℕ) → Contains p h → on h p ≡ true
contains_on h p c = on_at h p c.0 c.1 c.2

pub on_contains : (h : ℕ) (p : List ℕ) → on h p ≡ true → Contains p h
on_contains h [] t = absurd (both_ways false refl t)
on_contains h (x ∷ p) t =
    ⊎_elim (λ (e : x ≡ h). (0, omega arith, e)) (λ (r : on h p ≡ true). let c = on_contains h p r in (suc c.0, omega arith, c.2)) (on_cases h x p t)

pub reached_in : (g : List Block) → IsClosed g → (b : ℕ) → IsReached g b → b < length g
reached_in g closed b r = go r.0 b r.1
  where
    go : (p : List ℕ) (b : ℕ) → IsPath g b p → b < length g
    go [] b h = rw h closed.has_entry
    go (a ∷ p) b h = closed.edges_in a b h.0

-- an edge that does not go back
record Forth (g : List Block) (a b : ℕ) : Type 0 where
  reached : IsReached g a
  edge : HasEdge g a b
  not_back : Over g b a → ⊥

abbrev IsRise : List Block → ℕ → ℕ → List ℕ → Type 0
IsRise g a b [] = a ≡ b
IsRise g a b (c ∷ w) = Forth g c b × IsRise g a c w

record Rises (g : List Block) (a b : ℕ) : Type 0 where
  from : ℕ
  by : List ℕ
  rise : IsRise g a b (from ∷ by)

walk_of : (g : List Block) (a b : ℕ) (w : List ℕ) → IsRise g a b w → IsWalk g a b w
walk_of g a b [] r = r
walk_of g a b (c ∷ w) r = (r.0.edge, walk_of g a c w r.1)

-- what comes before a block of a rise, which may be its beginning
before : (g : List Block) (a b c : ℕ) (w : List ℕ) (h : ℕ) → IsRise g a b (c ∷ w) → on h (c ∷ w) ≡ true →
    ((x : ℕ) × (on x (c ∷ w) ≡ true) × Forth g x h) ⊎ (a ≡ h)
before g a b c [] h r t = ⊎_elim (λ (e : c ≡ h). inr (r.1 ∙ e)) (λ (k : false ≡ true). absurd (both_ways false refl k)) (on_cases h c [] t)
before g a b c (d ∷ w) h r t =
    ⊎_elim
    (λ (e : c ≡ h). inl (d, on_there d c (d ∷ w) (on_here d w), subst (Forth g d) e r.1.0))
    (λ (k : on h (d ∷ w) ≡ true).
    ⊎_elim (λ (s : (x : ℕ) × (on x (d ∷ w) ≡ true) × Forth g x h). inl (s.0, on_there s.0 c (d ∷ w) s.1, s.2)) (λ (e : a ≡ h). inr e)
    (before g a c d w h r.1 k))
    (on_cases h c (d ∷ w) t)

never_round : (g : List Block) → IsReducible g → (b : ℕ) → Rises g b b → ⊥
never_round g red b r =
    let f = r.rise.0 in
    let head = red b r.from r.by (r.from ∷ f.reached.0, (f.edge, f.reached.1)) (walk_of g b b (r.from ∷ r.by) r.rise) in
    let over = λ (x : ℕ) (t : on x (r.from ∷ r.by) ≡ true). over_of head.0 x (head.2 x (on_contains x (r.from ∷ r.by) t)) in
    ⊎_elim
    (λ (s : (x : ℕ) × (on x (r.from ∷ r.by) ≡ true) × Forth g x head.0). s.2.not_back (over s.0 s.1))
    (λ (e : b ≡ head.0). f.not_back (subst (λ y. Over g y r.from) (sym e) (over r.from (on_here r.from r.by))))
    (before g b b r.from r.by head.0 r.rise (contains_on head.0 (r.from ∷ r.by) head.1))
  where
    over_of : (h x : ℕ) → IsOnEveryPath g h x → Over g h x
    over_of h x every = record { passes = λ p q. contains_on h (x ∷ p) (every p q) }

-- how many below n pass
unfoldable pub count : ℕ → (ℕ → Bool) → ℕ
count zero D = 0
count (suc n) D = cond (D n) 1 0 + count n D

pub count_below : (n : ℕ) (D : ℕ → Bool) → count n D ≤ n
unfolding count
count_below zero D = omega arith
count_below (suc n) D = let l = count_below n D in ⊎_elim (λ (t : D n ≡ true). rw t (omega arith)) (λ (f : D n ≡ false). rw f (omega arith)) (cases_Bool (D n))

pub count_part : (n : ℕ) (D F : ℕ → Bool) → ((x : ℕ) → x < n → D x ≡ true → F x ≡ true) → count n D ≤ count n F
unfolding count
count_part zero D F sub = omega arith
count_part (suc n) D F sub =
    let l = count_part n D F (λ x h. sub x (omega arith)) in
    ⊎_elim (λ (t : D n ≡ true). let u = sub n (omega arith) t in rw (t, u) (omega arith)) (λ (f : D n ≡ false). rw f (omega arith)) (cases_Bool (D n))

pub count_less : (n : ℕ) (D F : ℕ → Bool) (y : ℕ) → ((x : ℕ) → x < n → D x ≡ true → F x ≡ true) → y < n → D y ≡ false → F y ≡ true → count n D < count n F
unfolding count
count_less zero D F y sub h f t = absurd (omega arith)
count_less (suc n) D F y sub h f t =
    ⊎_elim
    (λ (e : y ≡ n).
    let l = count_part n D F (λ x h. sub x (omega arith)) in
    let fn : D n ≡ false = subst (λ z. D z ≡ false) e f in
    let tn : F n ≡ true = subst (λ z. F z ≡ true) e t in
    rw (fn, tn) (omega arith))
    (λ (m : y ≡ n → ⊥).
    let k : y < n = omega arith in
    let l = count_less n D F y (λ x h. sub x (omega arith)) k f t in
    ⊎_elim (λ (s : D n ≡ true). let u = sub n (omega arith) s in rw (s, u) (omega arith)) (λ (s : D n ≡ false). rw s (omega arith)) (cases_Bool (D n)))
    (cases_eq y n)

-- a choice below n of what there is for each number, where the goal is ⊥
pub picked : {A : Type 0} (P : ℕ → A → Type 0) (d : A) (n : ℕ) → ((x : ℕ) → x < n → ((a : A) → P x a → ⊥) → ⊥) →
    ((f : ℕ → A) → ((x : ℕ) → x < n → P x (f x)) → ⊥) → ⊥
picked P d zero each k = k (λ x. d) (λ x h. absurd (omega arith))
picked P d (suc n) each k =
    picked P d n (λ x h. each x (omega arith)) (λ f is. each n (omega arith) (λ a here.
    k (λ x. cond (eqb x n) a (f x)) (λ x h.
    ⊎_elim
    (λ (e : x ≡ n). let t : eqb x n ≡ true = eq-eqb x n e in rw t (subst (λ y. P y a) (sym e) here))
    (λ (m : x ≡ n → ⊥). let u : eqb x n ≡ false = ne_eqb x n m in let l : x < n = omega arith in rw u (is x l))
    (cases_eq x n))))

pub ordered : (g : List Block) → IsReducible g → IsClosed g → ((place : ℕ → ℕ) (n : ℕ) → Places g place n → ⊥) → ⊥
ordered g red closed k =
    picked {A = ℕ → Bool} (λ b D. (x : ℕ) → x < length g → (D x ≡ true) ↔ Rises g x b) (λ x. false) (length g) (λ b h. told (λ x. Rises g x b) (length g))
    (λ f is. k (λ b. count (length g) (f b)) (suc (length g)) (places f is))
  where
    places : (f : ℕ → ℕ → Bool) → ((b : ℕ) → b < length g → (x : ℕ) → x < length g → (f b x ≡ true) ↔ Rises g x b) →
        Places g (λ b. count (length g) (f b)) (suc (length g))
    places f is = record {
      low = λ b r. let l = count_below (length g) (f b) in omega arith;
      edge = λ a b r e. ⊎_elim (λ (l : count (length g) (f a) < count (length g) (f b)). inl l)
          (λ (m : count (length g) (f b) ≤ count (length g) (f a)).
          inr (record {
            passes = λ p h. true_from_ne_false (on b (a ∷ p)) (λ s.
                let l = up a b (record { reached = r; edge = e; not_back = λ v. both_ways (on b (a ∷ p)) s (v.passes p h) }) in omega arith);
          }))
          (cases_lt (count (length g) (f a)) (count (length g) (f b)));
    }
      where
        up : (a b : ℕ) → Forth g a b → count (length g) (f a) < count (length g) (f b)
        up a b s =
            let ia = reached_in g closed a s.reached in
            let ib = reached_in g closed b (a ∷ s.reached.0, (s.edge, s.reached.1)) in
            count_less (length g) (f a) (f b) a
            (λ x h t. let r = (is a ia x h).0 t in (is b ib x h).1 (record { from = a; by = r.from ∷ r.by; rise = (s, r.rise) }))
            ia
            (false_from_ne_true (f a a) (λ t. never_round g red a ((is a ia a ia).0 t)))
            ((is b ib a ia).1 (record { from = a; by = []; rise = (s, refl) }))

-- the lowest block of a list
lowest : (place : ℕ → ℕ) (c : ℕ) (w : List ℕ) → (h : ℕ) × (on h (c ∷ w) ≡ true) × ((x : ℕ) → on x (c ∷ w) ≡ true → place h ≤ place x)
lowest place c [] = (c, on_here c [], λ x t. ⊎_elim (λ (e : c ≡ x). rw e (omega arith)) (λ (k : false ≡ true). absurd (both_ways false refl k)) (on_cases x c [] t))
lowest place c (d ∷ w) =
    let r = lowest place d w in
    ⊎_elim
    (λ (l : place c < place r.0). (
      c,
      on_here c (d ∷ w),
      λ x t.
          ⊎_elim (λ (e : c ≡ x). rw e (omega arith)) (λ (k : on x (d ∷ w) ≡ true). let m = r.2 x k in omega arith) (on_cases x c (d ∷ w) t),
    ))
    (λ (l : place r.0 ≤ place c). (
      r.0,
      on_there r.0 c (d ∷ w) r.1,
      λ x t.
          ⊎_elim (λ (e : c ≡ x). subst (λ y. place r.0 ≤ place y) e l) (λ (k : on x (d ∷ w) ≡ true). r.2 x k) (on_cases x c (d ∷ w) t),
    ))
    (cases_lt (place c) (place r.0))

walk_reached : (g : List Block) (a b : ℕ) (w : List ℕ) → IsReached g a → IsWalk g a b w → IsReached g b
walk_reached g a b [] r h = subst (IsReached g) h r
walk_reached g a b (c ∷ w) r h = let s = walk_reached g a c w r h.1 in (c ∷ s.0, (h.0, s.1))

walk_cut : (g : List Block) (a b : ℕ) (u : List ℕ) (c : ℕ) (v : List ℕ) → IsWalk g a b (u ++ c ∷ v) → IsWalk g a c v
walk_cut g a b [] c v h = h.1
walk_cut g a b (d ∷ u) c v h = walk_cut g a d u c v h.1

-- a graph with such an order is reducible
pub reducible_by : (g : List Block) (place : ℕ → ℕ) (n : ℕ) → Places g place n → IsReducible g
reducible_by g place n o b c w r walk =
    let low = lowest place c w in
    let cut = cut_at low.0 (c ∷ w) low.1 in
    let tail = walk_cut g b b cut.front low.0 cut.rest (subst (IsWalk g b b) cut.is walk) in
    let within = λ (x : ℕ) (t : on x cut.rest ≡ true). low.2 x (subst (λ l. on x l ≡ true) (sym cut.is) (on_behind x cut.front (low.0 ∷ cut.rest) (on_there x low.0 cut.rest t))) in
    let begin = (all_over low.0 b low.0 cut.rest r tail within (record { passes = λ p h. on_here low.0 p })).1 in
    let every = (all_over low.0 b b (c ∷ w) r walk low.2 begin).0 in
    (low.0, on_contains low.0 (c ∷ w) low.1, λ x t p h. on_contains low.0 (x ∷ p) ((every x (contains_on x (c ∷ w) t)).passes p h))
  where
    -- what leads to a block under h is under h, on a walk of blocks no lower than h
    all_over : (h a b : ℕ) (w : List ℕ) → IsReached g a → IsWalk g a b w → ((x : ℕ) → on x w ≡ true → place h ≤ place x) → Over g h b →
        ((x : ℕ) → on x w ≡ true → Over g h x) × Over g h a
    all_over h a b [] r walk no_lower over = (λ x t. absurd (both_ways false refl t), subst (Over g h) (sym walk) over)
    all_over h a b (c ∷ w) r walk no_lower over =
        let rest = all_over h a c w r walk.1 (λ x t. no_lower x (on_there x c w t)) here in
        (λ x t. ⊎_elim (λ (e : c ≡ x). subst (Over g h) e here) (λ (k : on x w ≡ true). rest.0 x k) (on_cases x c w t), rest.1)
      where
        here : Over g h c
        here =
            ⊎_elim
            (λ (e : b ≡ h).
            let l = no_lower c (on_here c w) in
            ⊎_elim (λ (up : place c < place h). absurd (omega arith)) (λ (s : Over g h c). s)
            (o.edge c h (walk_reached g a c w r walk.1) (subst (HasEdge g c) e walk.0)))
            (λ (ne : b ≡ h → ⊥). record { passes = λ p k. on_tail h b (c ∷ p) ne (over.passes (c ∷ p) (walk.0, k)) })
            (cases_eq b h)

over_of : (g : List Block) (h x : ℕ) → IsOnEveryPath g h x → Over g h x
over_of g h x every = record { passes = λ p q. contains_on h (x ∷ p) (every p q) }

pub order_reducible : (g : List Block) (place : ℕ → ℕ) → IsOrder g place → IsReducible g
order_reducible g place o = reducible_by g place o.bound (record {
  low = o.low;
  edge = λ a b r e. ⊎_elim (λ (l : place a < place b). inl l) (λ (v : IsOnEveryPath g b a). inr (over_of g b a v)) (o.edge a b r e);
})

path_walk : (g : List Block) (a : ℕ) (u : List ℕ) (b : ℕ) (v : List ℕ) → IsPath g a (u ++ b ∷ v) → IsWalk g b a (u ++ b ∷ [])
path_walk g a [] b v h = (h.0, refl)
path_walk g a (x ∷ u) b v h = (h.0, path_walk g x u b v h.1)

apart_at : (x h : ℕ) (l : List ℕ) → AllByRecursion (λ y. eqb x y ≡ false) l → on h l ≡ true → x ≡ h → ⊥
apart_at x h [] a t e = both_ways false refl t
apart_at x h (y ∷ l) a t e =
    ⊎_elim (λ (s : y ≡ h). eqb-false x y a.0 (e ∙ sym s)) (λ (s : on h l ≡ true). apart_at x h l a.1 s e) (on_cases h y l t)

distinct_apart : (h : ℕ) (u r : List ℕ) → IsDistinct eqb (u ++ r) → on h u ≡ true → on h r ≡ true → ⊥
unfolding IsDistinct
distinct_apart h [] r d t s = both_ways false refl t
distinct_apart h (x ∷ u) r d t s =
    ⊎_elim (λ (e : x ≡ h). apart_at x h (u ++ r) d.0 (on_behind h u r s) e) (λ (k : on h u ≡ true). distinct_apart h u r d.1 k s) (on_cases h x u t)

-- an edge back to a block of a path with no block twice goes to one that every path to its beginning passes
pub back_over : (g : List Block) (a b : ℕ) (p : List ℕ) → IsReducible g → IsPath g a p → IsDistinct eqb (a ∷ p) → Contains (a ∷ p) b → HasEdge g a b → IsOnEveryPath g b a
back_over g a b p red h distinct has e = by_front c.front c.rest c.is
  where
    c : Cut b (a ∷ p)
    c = cut_at b (a ∷ p) (contains_on b (a ∷ p) has)

    by_front : (u v : List ℕ) → a ∷ p ≡ u ++ b ∷ v → IsOnEveryPath g b a
    by_front [] v is = let s : a ≡ b = cc in λ q k. subst (λ y. Contains (a ∷ q) y) s (on_contains a (a ∷ q) (on_here a q))
    by_front (x ∷ u) v is =
        let s : a ≡ x = cc in
        let rest : p ≡ u ++ b ∷ v = cc in
        let path = subst (IsPath g a) rest h in
        let cycle : IsWalk g b b (a ∷ (u ++ b ∷ [])) = (e, path_walk g a u b v path) in
        let to_b = path_cut a u path in
        let head = red b a (u ++ b ∷ []) (v, to_b) cycle in
        let at_b = contains_on head.0 (b ∷ v) (head.2 b (on_contains b (a ∷ (u ++ b ∷ [])) (on_there b a (u ++ b ∷ []) (on_behind b u (b ∷ []) (on_here b [])))) v to_b) in
        ⊎_elim
        (λ (k : b ≡ head.0). subst (λ y. IsOnEveryPath g y a) (sym k) (head.2 a (on_contains a (a ∷ (u ++ b ∷ [])) (on_here a (u ++ b ∷ [])))))
        (λ (k : on head.0 v ≡ true).
        ⊎_elim
        (λ (m : b ≡ head.0). subst (λ y. IsOnEveryPath g y a) (sym m) (head.2 a (on_contains a (a ∷ (u ++ b ∷ [])) (on_here a (u ++ b ∷ [])))))
        (λ (m : b ≡ head.0 → ⊥). absurd (distinct_apart head.0 (a ∷ u) (b ∷ v) (subst (IsDistinct eqb) (ap (λ l. a ∷ l) rest) distinct)
        (front_on head.0 a u m (contains_on head.0 (a ∷ (u ++ b ∷ [])) head.1)) (on_there head.0 b v k)))
        (cases_eq b head.0))
        (on_cases head.0 b v at_b)
      where
        path_cut : (a : ℕ) (u : List ℕ) → IsPath g a (u ++ b ∷ v) → IsPath g b v
        path_cut a [] h = h.1
        path_cut a (x ∷ u) h = path_cut x u h.1

        front_on : (h a : ℕ) (u : List ℕ) → (b ≡ h → ⊥) → on h (a ∷ (u ++ b ∷ [])) ≡ true → on h (a ∷ u) ≡ true
        front_on h a [] n t = ⊎_elim (λ (s : a ≡ h). or_left (eqb a h) false (eq-eqb a h s)) (λ (s : on h (b ∷ []) ≡ true). absurd (⊎_elim n (λ (f : false ≡ true). both_ways false refl f) (on_cases h b [] s))) (on_cases h a (b ∷ []) t)
        front_on h a (x ∷ u) n t = ⊎_elim (λ (s : a ≡ h). or_left (eqb a h) (on h (x ∷ u)) (eq-eqb a h s)) (λ (s : on h (x ∷ (u ++ b ∷ [])) ≡ true). on_there h a (x ∷ u) (front_on h x u n s)) (on_cases h a (x ∷ (u ++ b ∷ [])) t)
