-- What a walk has seen and left.
use Rattle.std.proofs.Common.{◌≡◌, ℕ, zero, suc, ◌<◌, ◌≤◌, Bool, true, false, ◌⊎◌, List, [], ◌∷◌, length, get_or, refl, sym, ◌∙◌, subst, inl, inr, ⊎_elim, arith, length-set, get_or-set_same, get_or-set_other}
use Rattle.std.specs.Prelude.{Contains}
use Rattle.std.proofs.lemmas.Bool.{cases_Bool, cases_eq, both_ways}
use Rattle.ms_paths.specs.Flow.{Block as Run, HasEdge}
use Rattle.ms_flow.specs.Table.{next_of}
use Rattle.ms_flow.specs.Walk.{WalkState, is_seen, enter, leave, each, visit, unseen}
use Rattle.ms_flow.proofs.Steps.{unseen-set, unseen_le, visit_seen, visit_new}
use Rattle.ms_flow.proofs.Members.{here, here_is, there, in_none, in_cons, AreApart}

abbrev pub marked : List Bool → ℕ → Bool
marked A b = get_or A b false

-- a way to b from one of the blocks of a list, over blocks that are not marked; p has the blocks before b, the latest first
abbrev pub Leads : List Run → List ℕ → List Bool → List ℕ → ℕ → Type 0
Leads g from A [] b = Contains from b
Leads g from A (a ∷ p) b = HasEdge g a b × (marked A a ≡ false) × Leads g from A p a

-- the same, where b is not marked
abbrev pub Comes : List Run → List ℕ → List Bool → List ℕ → ℕ → Type 0
Comes g from A p b = (marked A b ≡ false) × Leads g from A p b

-- y stands on a way to x that passes no block twice
pub record IsBack (g : List Run) (from : List ℕ) (A : List Bool) (x y : ℕ) : Type 0 where
  pub way : List ℕ
  pub comes : Comes g from A way x
  pub apart : AreApart (x ∷ way)
  pub on : Contains (x ∷ way) y

-- Each block stands once, and each of its edges leads to a marked block, to one that was left before it, or back.
abbrev pub AreLeft : List Run → List ℕ → List Bool → List ℕ → Type 0
AreLeft g from A [] = Unit {0}
AreLeft g from A (x ∷ l) = (Contains l x → ⊥)
    × ((y : ℕ) → HasEdge g x y → (marked A y ≡ true) ⊎ (Contains l y ⊎ IsBack g from A x y))
    × AreLeft g from A l

-- how far a walk is that is in the blocks p, the latest first
pub record IsUnderWay (g : List Run) (from : List ℕ) (A : List Bool) (p : List ℕ) (s : WalkState) : Type 0 where
  pub sized : length s.seen ≡ length g
  pub seen : (b : ℕ) → is_seen s b ≡ true → (marked A b ≡ true) ⊎ (Contains s.left b ⊎ Contains p b)
  pub kept : (b : ℕ) → marked A b ≡ true → is_seen s b ≡ true
  pub left_seen : (b : ℕ) → Contains s.left b → is_seen s b ≡ true
  pub in_seen : (b : ℕ) → Contains p b → is_seen s b ≡ true
  pub not_both : (b : ℕ) → Contains s.left b → Contains p b → ⊥
  pub comes : (b : ℕ) → Contains s.left b → (q : List ℕ) × Comes g from A q b
  pub left : AreLeft g from A s.left
  pub closed : (a b : ℕ) → Contains s.left a → HasEdge g a b → is_seen s b ≡ true

pub record IsFurther (g : List Run) (from : List ℕ) (A : List Bool) (p : List ℕ) (s t : WalkState) : Type 0 where
  pub under_way : IsUnderWay g from A p t
  pub grows : (b : ℕ) → is_seen s b ≡ true → is_seen t b ≡ true
  pub fewer : unseen t.seen ≤ unseen s.seen

-- the edges lead to blocks of the graph
pub record AreInside (g : List Run) : Type 0 where
  pub edges_in : (a b : ℕ) → HasEdge g a b → b < length g

enter_grows : (s : WalkState) (b x : ℕ) → is_seen s x ≡ true → is_seen (enter b s) x ≡ true
enter_grows s b x h =
    ⊎_elim
    (λ (e : x ≡ b). let lt : x < length s.seen = seen_below s.seen x h in rw e (get_or-set_same s.seen b true false (subst (λ k. k < length s.seen) e lt)))
    (λ (n : x ≡ b → ⊥). get_or-set_other s.seen b x true false n ∙ h)
    (cases_eq x b)
  where
    seen_below : (l : List Bool) (x : ℕ) → get_or l x false ≡ true → x < length l
    seen_below [] x h = absurd (both_ways false refl h)
    seen_below (m ∷ l) zero h = omega arith
    seen_below (m ∷ l) (suc x) h = let r = seen_below l x h in omega arith

entered : (g : List Run) (from : List ℕ) (A : List Bool) (p : List ℕ) (b : ℕ) (s : WalkState) → IsUnderWay g from A p s → b < length g → is_seen s b ≡ false → IsUnderWay g from A (b ∷ p) (enter b s)
entered g from A p b s u lt new =
    let sized = u.sized in
    record {
      sized = simp length-set sized;
      seen = λ x h. ⊎_elim
          (λ (e : x ≡ b). inr (inr (here_is b p x (sym e))))
          (λ (n : x ≡ b → ⊥).
          let old : is_seen s x ≡ true = sym (get_or-set_other s.seen b x true false n) ∙ h in
          ⊎_elim (λ (m : marked A x ≡ true). inl m)
          (λ (r : Contains s.left x ⊎ Contains p x). inr (⊎_elim (λ (l : Contains s.left x). inl l) (λ (i : Contains p x). inr (there b p x i)) r))
          (u.seen x old))
          (cases_eq x b);
      kept = λ x m. enter_grows s b x (u.kept x m);
      left_seen = λ x l. enter_grows s b x (u.left_seen x l);
      in_seen = λ x i. ⊎_elim
          (λ (e : b ≡ x). subst (λ k. is_seen (enter b s) k ≡ true) e (get_or-set_same s.seen b true false (omega arith)))
          (λ (j : Contains p x). enter_grows s b x (u.in_seen x j))
          (in_cons b p x i);
      not_both = λ x l i. ⊎_elim
          (λ (e : b ≡ x). both_ways (is_seen s b) new (subst (λ k. is_seen s k ≡ true) (sym e) (u.left_seen x l)))
          (λ (j : Contains p x). u.not_both x l j)
          (in_cons b p x i);
      comes = u.comes;
      left = u.left;
      closed = λ a x l h. enter_grows s b x (u.closed a x l h);
    }

was_left : (g : List Run) (from : List ℕ) (A : List Bool) (p : List ℕ) (b : ℕ) (s : WalkState) → IsUnderWay g from A (b ∷ p) s → AreApart (b ∷ p) → Comes g from A p b → ((y : ℕ) → HasEdge g b y → is_seen s y ≡ true) → IsUnderWay g from A p (leave b s)
was_left g from A p b s u apart comes done =
    record {
      sized = u.sized;
      seen = λ x h. ⊎_elim (λ (m : marked A x ≡ true). inl m)
          (λ (r : Contains s.left x ⊎ Contains (b ∷ p) x). inr (⊎_elim
          (λ (l : Contains s.left x). inl (there b s.left x l))
          (λ (i : Contains (b ∷ p) x). ⊎_elim (λ (e : b ≡ x). inl (here_is b s.left x e)) (λ (j : Contains p x). inr j) (in_cons b p x i))
          r))
          (u.seen x h);
      kept = u.kept;
      left_seen = λ x l. ⊎_elim
          (λ (e : b ≡ x). subst (λ k. is_seen s k ≡ true) e (u.in_seen b (here b p)))
          (λ (m : Contains s.left x). u.left_seen x m)
          (in_cons b s.left x l);
      in_seen = λ x i. u.in_seen x (there b p x i);
      not_both = λ x l i. ⊎_elim
          (λ (e : b ≡ x). apart.0 (rw e i))
          (λ (m : Contains s.left x). u.not_both x m (there b p x i))
          (in_cons b s.left x l);
      comes = λ x l. ⊎_elim
          (λ (e : b ≡ x). (p, subst (λ k. Comes g from A p k) e comes))
          (λ (m : Contains s.left x). u.comes x m)
          (in_cons b s.left x l);
      left = (
        λ l. u.not_both b l (here b p),
        λ y h. ⊎_elim (λ (m : marked A y ≡ true). inl m)
            (λ (r : Contains s.left y ⊎ Contains (b ∷ p) y). inr (⊎_elim
            (λ (l : Contains s.left y). inl l)
            (λ (i : Contains (b ∷ p) y). inr (record { way = p; comes = comes; apart = apart; on = i }))
            r))
            (u.seen y (done y h)),
        u.left,
      );
      closed = λ a y l h. ⊎_elim
          (λ (e : b ≡ a). done y (rw e h))
          (λ (m : Contains s.left a). u.closed a y m h)
          (in_cons b s.left a l);
    }

each_further : (g : List Run) (from : List ℕ) (A : List Bool) (p : List ℕ) (n : ℕ) (step : ℕ → WalkState → WalkState) →
    ((b : ℕ) (s : WalkState) → IsUnderWay g from A p s → Leads g from A p b → b < length g → unseen s.seen ≤ n → IsFurther g from A p s (step b s) × (is_seen (step b s) b ≡ true)) →
    (bs : List ℕ) (s : WalkState) → IsUnderWay g from A p s → ((b : ℕ) → Contains bs b → Leads g from A p b × (b < length g)) → unseen s.seen ≤ n →
    IsFurther g from A p s (each step bs s) × ((b : ℕ) → Contains bs b → is_seen (each step bs s) b ≡ true)
each_further g from A p n step one [] s u lead few = (record { under_way = u; grows = λ b h. h; fewer = omega arith }, λ b h. absurd (in_none b h))
each_further g from A p n step one (b ∷ bs) s u lead few =
    let l = lead b (here b bs) in
    let f = one b s u l.0 l.1 few in
    let less = f.0.fewer in
    let r = each_further g from A p n step one bs (step b s) f.0.under_way (λ x h. lead x (there b bs x h)) (omega arith) in
    let less_yet = r.0.fewer in (
      record { under_way = r.0.under_way; grows = λ x h. r.0.grows x (f.0.grows x h); fewer = omega arith },
      λ x h. ⊎_elim (λ (e : b ≡ x). subst (λ k. is_seen (each step bs (step b s)) k ≡ true) e (r.0.grows b f.1)) (λ (m : Contains bs x). r.1 x m) (in_cons b bs x h),
    )

-- where a block is not marked, one that was not seen is not marked either
not_marked : (g : List Run) (from : List ℕ) (A : List Bool) (p : List ℕ) (b : ℕ) (s : WalkState) → IsUnderWay g from A p s → is_seen s b ≡ false → marked A b ≡ false
not_marked g from A p b s u new =
    ⊎_elim (λ (t : marked A b ≡ true). absurd (both_ways (is_seen s b) new (u.kept b t))) (λ (f : marked A b ≡ false). f) (cases_Bool (marked A b))

still : (g : List Run) (from : List ℕ) (A : List Bool) (p : List ℕ) (n b : ℕ) (s : WalkState) → IsUnderWay g from A p s → is_seen s b ≡ true → IsFurther g from A p s (visit g n b s) × (is_seen (visit g n b s) b ≡ true)
still g from A p n b s u t =
    let P : WalkState → Type 0 = λ r. IsFurther g from A p s r × (is_seen r b ≡ true) in
    subst P (sym (visit_seen g n b s t)) (record { under_way = u; grows = λ x h. h; fewer = omega arith }, t)

came_back : (g : List Run) (from : List ℕ) (A : List Bool) (p : List ℕ) (n b : ℕ) (s : WalkState) → IsUnderWay g from A p s → AreApart (b ∷ p) → Leads g from A p b → b < length g → is_seen s b ≡ false →
    IsFurther g from A (b ∷ p) (enter b s) (each (visit g n) (next_of g b) (enter b s)) × ((x : ℕ) → Contains (next_of g b) x → is_seen (each (visit g n) (next_of g b) (enter b s)) x ≡ true) →
    IsFurther g from A p s (visit g (suc n) b s) × (is_seen (visit g (suc n) b s) b ≡ true)
came_back g from A p n b s u apart lead lt new r =
    let P : WalkState → Type 0 = λ t. IsFurther g from A p s t × (is_seen t b ≡ true) in
    let t = each (visit g n) (next_of g b) (enter b s) in
    let sized = u.sized in
    let fall = unseen-set s.seen b (omega arith) new in
    let fewer = r.0.fewer in
    let less : unseen t.seen ≤ unseen s.seen = omega arith in
    subst P (sym (visit_new g n b s new)) (
      record {
        under_way = was_left g from A p b t r.0.under_way apart (not_marked g from A p b s u new, lead) r.1;
        grows = λ x h. r.0.grows x (enter_grows s b x h);
        fewer = less;
      },
      r.0.under_way.in_seen b (here b p),
    )

pub visit_further : (g : List Run) (from : List ℕ) (A : List Bool) → AreInside g → (n : ℕ) (p : List ℕ) → AreApart p → (b : ℕ) (s : WalkState) → IsUnderWay g from A p s → Leads g from A p b → b < length g → unseen s.seen ≤ n →
    IsFurther g from A p s (visit g n b s) × (is_seen (visit g n b s) b ≡ true)
visit_further g from A inside zero p apart b s u lead lt few =
    ⊎_elim (λ (t : is_seen s b ≡ true). still g from A p zero b s u t)
    (λ (f : is_seen s b ≡ false). let sized = u.sized in let fall = unseen-set s.seen b (omega arith) f in absurd (omega arith))
    (cases_Bool (is_seen s b))
visit_further g from A inside (suc n) p apart b s u lead lt few =
    ⊎_elim (λ (t : is_seen s b ≡ true). still g from A p (suc n) b s u t)
    (λ (f : is_seen s b ≡ false).
    let sized = u.sized in
    let fall = unseen-set s.seen b (omega arith) f in
    let apart' : AreApart (b ∷ p) = (λ i. both_ways (is_seen s b) f (u.in_seen b i), apart) in
    came_back g from A p n b s u apart' lead lt f
    (each_further g from A (b ∷ p) n (visit g n) (λ x t v l m few'. visit_further g from A inside n (b ∷ p) apart' x t v l m few')
    (next_of g b) (enter b s) (entered g from A p b s u lt f)
    (λ x h. ((h, not_marked g from A p b s u f, lead), inside.edges_in b x h)) (omega arith)))
    (cases_Bool (is_seen s b))

-- a walk that has not begun
begun : (g : List Run) (from : List ℕ) (A : List Bool) → length A ≡ length g → IsUnderWay g from A [] (record { seen = A; left = [] })
begun g from A sized =
    record {
      sized = sized;
      seen = λ b h. inl h;
      kept = λ b m. m;
      left_seen = λ b l. absurd (in_none b l);
      in_seen = λ b i. absurd (in_none b i);
      not_both = λ b l i. in_none b l;
      comes = λ b l. absurd (in_none b l);
      left = tt;
      closed = λ a b l h. absurd (in_none a l);
    }

-- What a walk from these blocks, with these marks, has done.
pub record IsDone (g : List Run) (from : List ℕ) (A : List Bool) (s : WalkState) : Type 0 where
  pub sized : length s.seen ≡ length g
  pub seen : (b : ℕ) → is_seen s b ≡ true → (marked A b ≡ true) ⊎ Contains s.left b
  pub kept : (b : ℕ) → marked A b ≡ true → is_seen s b ≡ true
  pub left_seen : (b : ℕ) → Contains s.left b → is_seen s b ≡ true
  pub comes : (b : ℕ) → Contains s.left b → (q : List ℕ) × Comes g from A q b
  pub left : AreLeft g from A s.left
  pub all : (b : ℕ) (q : List ℕ) → Comes g from A q b → Contains s.left b

pub walk_done : (g : List Run) (from : List ℕ) (A : List Bool) → AreInside g → length A ≡ length g → ((b : ℕ) → Contains from b → b < length g) → IsDone g from A (each (visit g (length g)) from (record { seen = A; left = [] }))
walk_done g from A inside sized within =
    record {
      sized = u.sized;
      seen = λ b h. stopped b h;
      kept = u.kept;
      left_seen = u.left_seen;
      comes = u.comes;
      left = u.left;
      all = all;
    }
  where
    s : WalkState
    s = each (visit g (length g)) from (record { seen = A; left = [] })

    r : IsFurther g from A [] (record { seen = A; left = [] }) s × ((b : ℕ) → Contains from b → is_seen s b ≡ true)
    r = let few = unseen_le A in
        each_further g from A [] (length g) (visit g (length g)) (λ x t v l m few'. visit_further g from A inside (length g) [] tt x t v l m few')
        from (record { seen = A; left = [] }) (begun g from A sized) (λ b h. (h, within b h)) (omega arith)

    u : IsUnderWay g from A [] s
    u = r.0.under_way

    stopped : (b : ℕ) → is_seen s b ≡ true → (marked A b ≡ true) ⊎ Contains s.left b
    stopped b h = ⊎_elim (λ (m : marked A b ≡ true). inl m)
        (λ (e : Contains s.left b ⊎ Contains [] b). ⊎_elim (λ (l : Contains s.left b). inr l) (λ (i : Contains [] b). absurd (in_none b i)) e)
        (u.seen b h)

    was : (b : ℕ) → marked A b ≡ false → is_seen s b ≡ true → Contains s.left b
    was b f h = ⊎_elim (λ (m : marked A b ≡ true). absurd (both_ways (marked A b) f m)) (λ (l : Contains s.left b). l) (stopped b h)

    all : (b : ℕ) (q : List ℕ) → Comes g from A q b → Contains s.left b
    all b [] c = was b c.0 (r.1 b c.1)
    all b (a ∷ q) c = was b c.0 (u.closed a b (all a q (c.1.1, c.1.2)) c.1.0)
