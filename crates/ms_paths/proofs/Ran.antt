-- Instructions in the order in which a path runs them.
use Rattle.std.proofs.Common.{◌≡◌, ℕ, zero, suc, ◌<◌, Bool, true, false, cond, ◌⊎◌, List, [], ◌∷◌, ◌++◌, length, take, get_or, Some, refl, sym, ap, ◌∙◌, subst, inl, inr, ⊎_elim, arith, append_assoc, take_all}
use Rattle.std.specs.Prelude.{Contains, slice_get}
use Rattle.std.proofs.lemmas.Bool.{cases_Bool, cases_eq, both_ways, or_left, or_right, or_cases, false_from_ne_true, cond-true, eqb-true, eq-eqb}
use Rattle.ms_paths.specs.Flow.{Block, block_at, IsPath, Event, Of, Entry, after, last_event, last_event_at, LiesOnEvery, and_one, just, no_block, StandsAt, StandsInOnePlace}
use Rattle.ms_paths.proofs.Bridge.{any_of, after_none}
use Rattle.ms_paths.proofs.Order.{on, on_cases, on_back, on_behind, on_front, cut_at}
use Rattle.ms_paths.proofs.Reduce.{contains_on}

-- the instructions of a path's blocks, in order
abbrev pub ran : List Block → List ℕ → List ℕ
ran g [] = []
ran g (b ∷ p) = ran g p ++ (block_at g b).events

pub after_append : (E : ℕ → Bool) (a b : List ℕ) (e : Event) → after E (a ++ b) e ≡ after E b (after E a e)
after_append E [] b e = refl
after_append E (i ∷ a) b e = after_append E a b (cond (E i) (Of i) e)

last_ran : (g : List Block) (E : ℕ → Bool) (p : List ℕ) → last_event g E no_block p ≡ after E (ran g p) Entry
last_ran g E [] = refl
last_ran g E (b ∷ p) = ap (after E (block_at g b).events) (last_ran g E p) ∙ sym (after_append E (ran g p) (block_at g b).events Entry)

-- what was run before the instruction k of the block b, on some path
pub record Trace (g : List Block) (b k : ℕ) (t : List ℕ) : Type 0 where
  pub path : List ℕ
  pub is_path : IsPath g b path
  pub is : t ≡ ran g path ++ take k (block_at g b).events

split_eq : (t : List ℕ) (i : ℕ) (s a b : List ℕ) → t ++ i ∷ s ≡ a ++ b →
    ((m : List ℕ) × (a ≡ t ++ i ∷ m) × (s ≡ m ++ b)) ⊎ ((m : List ℕ) × (b ≡ m ++ i ∷ s) × (t ≡ a ++ m))
split_eq t i s [] b e = inr (t, sym e, refl)
split_eq [] i s (x ∷ a) b e = let k : x ≡ i = cc in inl (a, ap (λ y. y ∷ a) k, cc)
split_eq (y ∷ t) i s (x ∷ a) b e =
    let k : x ≡ y = cc in
    let r : t ++ i ∷ s ≡ a ++ b = cc in
    ⊎_elim
    (λ (l : (m : List ℕ) × (a ≡ t ++ i ∷ m) × (s ≡ m ++ b)). let q = l.1 in inl (l.0, (let w : x ∷ a ≡ y ∷ (t ++ i ∷ l.0) = cc in w), l.2))
    (λ (l : (m : List ℕ) × (b ≡ m ++ i ∷ s) × (t ≡ a ++ m)). let q = l.2 in inr (l.0, l.1, (let w : y ∷ t ≡ x ∷ (a ++ l.0) = cc in w)))
    (split_eq t i s a b r)

take_place : (is : List ℕ) (k : ℕ) (m : List ℕ) (i : ℕ) (s : List ℕ) → take k is ≡ m ++ i ∷ s →
    (slice_get is (length m) ≡ Some i) × (take (length m) is ≡ m)
take_place is zero [] i s e = cc
take_place is zero (y ∷ m) i s e = cc
take_place [] (suc k) [] i s e = cc
take_place [] (suc k) (y ∷ m) i s e = cc
take_place (x ∷ is) (suc k) [] i s e = let q : x ≡ i = cc in (ap Some q, refl)
take_place (x ∷ is) (suc k) (y ∷ m) i s e =
    let q : x ≡ y = cc in
    let r = take_place is k m i s (cc) in
    (r.0, (let u = r.1 in let w : x ∷ take (length m) is ≡ y ∷ m = cc in w))

-- an instruction that was run: where it stands, what was run before it, and what may have been in place of that
pub record Here (g : List Block) (b k : ℕ) (t : List ℕ) (i : ℕ) (s : List ℕ) : Type 0 where
  pub block : ℕ
  pub place : ℕ
  pub stands : StandsAt g i block place
  pub upto : Trace g block place t
  pub on_from : (r : List ℕ) → Trace g block place r → Trace g b k (r ++ i ∷ s)

pub here : (g : List Block) (p : List ℕ) (b k : ℕ) (t : List ℕ) (i : ℕ) (s : List ℕ) → IsPath g b p →
    t ++ i ∷ s ≡ ran g p ++ take k (block_at g b).events → Here g b k t i s
here g [] b k t i s h e =
    let at = take_place (block_at g b).events k t i s (sym e) in
    record {
      block = b;
      place = length t;
      stands = at.0;
      upto = record { path = []; is_path = h; is = sym at.1 };
      on_from = λ r tr. record {
        path = tr.path;
        is_path = tr.is_path;
        is = ap (λ l. l ++ i ∷ s) (tr.is ∙ ap (λ l. ran g tr.path ++ l) at.1) ∙ append_assoc (ran g tr.path) t (i ∷ s) ∙ ap (λ l. ran g tr.path ++ l) e;
      };
    }
here g (a ∷ p) b k t i s h e =
    ⊎_elim
    (λ (l : (m : List ℕ) × (ran g (a ∷ p) ≡ t ++ i ∷ m) × (s ≡ m ++ take k (block_at g b).events)).
    let whole = take_all (length (block_at g a).events) (block_at g a).events (omega arith) in
    let r = here g p a (length (block_at g a).events) t i l.0 h.1 (sym l.1 ∙ ap (λ x. ran g p ++ x) (sym whole)) in
    record {
      block = r.block;
      place = r.place;
      stands = r.stands;
      upto = r.upto;
      on_from = λ x tr.
          let y = r.on_from x tr in
          record {
            path = a ∷ y.path;
            is_path = (h.0, y.is_path);
            is = ap (λ z. x ++ i ∷ z) l.2 ∙ sym (append_assoc x (i ∷ l.0) (take k (block_at g b).events))
                ∙ ap (λ z. z ++ take k (block_at g b).events) (y.is ∙ ap (λ z. ran g y.path ++ z) whole);
          };
    })
    (λ (l : (m : List ℕ) × (take k (block_at g b).events ≡ m ++ i ∷ s) × (t ≡ ran g (a ∷ p) ++ m)).
    let at = take_place (block_at g b).events k l.0 i s l.1 in
    record {
      block = b;
      place = length l.0;
      stands = at.0;
      upto = record { path = a ∷ p; is_path = h; is = l.2 ∙ ap (λ z. ran g (a ∷ p) ++ z) (sym at.1) };
      on_from = λ r tr. record {
        path = tr.path;
        is_path = tr.is_path;
        is = ap (λ z. z ++ i ∷ s) (tr.is ∙ ap (λ z. ran g tr.path ++ z) at.1) ∙ append_assoc (ran g tr.path) l.0 (i ∷ s) ∙ ap (λ z. ran g tr.path ++ z) (sym l.1);
      };
    })
    (split_eq t i s (ran g (a ∷ p)) (take k (block_at g b).events) e)

ran_on : (g : List Block) (i : ℕ) (p : List ℕ) (a k : ℕ) → k < length p → get_or p k a ≡ a → on i (block_at g a).events ≡ true → on i (ran g p) ≡ true
ran_on g i [] a k l e t = absurd (omega arith)
ran_on g i (x ∷ p) a zero l e t = on_behind i (ran g p) (block_at g x).events (subst (λ y. on i (block_at g y).events ≡ true) (sym e) t)
ran_on g i (x ∷ p) a (suc k) l e t = on_front i (ran g p) (block_at g x).events (ran_on g i p a k (omega arith) e t)

pub met_on : (g : List Block) (i b k : ℕ) → LiesOnEvery g i b k → (t : List ℕ) → Trace g b k t → on i t ≡ true
met_on g i b k lies t tr =
    subst (λ l. on i l ≡ true) (sym tr.is)
    (⊎_elim
    (λ (m : Contains (take k (block_at g b).events) i). on_behind i (ran g tr.path) (take k (block_at g b).events) (contains_on i (take k (block_at g b).events) m))
    (λ (m : (a : ℕ) × Contains tr.path a × Contains (block_at g a).events i).
    on_front i (ran g tr.path) (take k (block_at g b).events) (ran_on g i tr.path m.0 m.1.0 m.1.1 m.1.2 (contains_on i (block_at g m.0).events m.2)))
    (lies tr.path tr.is_path))

-- the last instruction that passes
pub record Last (E : ℕ → Bool) (t : List ℕ) : Type 0 where
  pub front : List ℕ
  pub at : ℕ
  pub rest : List ℕ
  pub is : t ≡ front ++ at ∷ rest
  pub passes : E at ≡ true
  pub clear : any_of E rest ≡ false

pub last_of : (E : ℕ → Bool) (t : List ℕ) → any_of E t ≡ true → Last E t
last_of E [] h = absurd (both_ways false refl h)
last_of E (j ∷ t) h =
    ⊎_elim
    (λ (s : any_of E t ≡ true). let r = last_of E t s in record { front = j ∷ r.front; at = r.at; rest = r.rest; is = ap (λ l. j ∷ l) r.is; passes = r.passes; clear = r.clear })
    (λ (f : any_of E t ≡ false).
    ⊎_elim (λ (s : E j ≡ true). record { front = []; at = j; rest = t; is = refl; passes = s; clear = f })
    (λ (s : any_of E t ≡ true). absurd (both_ways (any_of E t) f s)) (or_cases (E j) (any_of E t) h))
    (cases_Bool (any_of E t))

pub on_any : (E : ℕ → Bool) (i : ℕ) (t : List ℕ) → on i t ≡ true → E i ≡ true → any_of E t ≡ true
on_any E i [] h e = h
on_any E i (x ∷ t) h e =
    ⊎_elim (λ (s : x ≡ i). or_left (E x) (any_of E t) (subst (λ y. E y ≡ true) (sym s) e)) (λ (s : on i t ≡ true). or_right (E x) (any_of E t) (on_any E i t s e)) (on_cases i x t h)

-- where every path to a point passes m, and every path to m passes x, no x stands between the last m and the point
pub between : (g : List Block) (m x a j b k : ℕ) → StandsInOnePlace g → StandsAt g m a j → LiesOnEvery g m b k → LiesOnEvery g x a j →
    (p : List ℕ) → IsPath g b p → last_event_at g (and_one m (just x)) no_block b k p ≡ Of m
between g m x a j b k once m_at on_m on_x p h =
    ap (after E (take k (block_at g b).events)) (last_ran g E p) ∙ sym (after_append E (ran g p) (take k (block_at g b).events) Entry)
    ∙ ap (λ l. after E l Entry) last.is ∙ after_append E last.front (last.at ∷ last.rest) Entry
    ∙ cond_last ∙ ap Of is_m
  where
    E : ℕ → Bool
    E = and_one m (just x)

    t : List ℕ
    t = ran g p ++ take k (block_at g b).events

    whole : Trace g b k t
    whole = record { path = p; is_path = h; is = refl }

    m_passes : E m ≡ true
    m_passes = or_left (just m m) (just x m) (eq-eqb m m refl)

    last : Last E t
    last = last_of E t (on_any E m t (met_on g m b k on_m t whole) m_passes)

    cond_last : after E (last.at ∷ last.rest) (after E last.front Entry) ≡ Of last.at
    cond_last = ap (after E last.rest) (cond-true (E last.at) (Of last.at) (after E last.front Entry) last.passes) ∙ after_none E last.rest last.clear (Of last.at)

    not_x : (last.at ≡ x) → (last.at ≡ m → ⊥) → ⊥
    not_x e n =
        let x_here = here g p b k last.front last.at last.rest h (sym last.is) in
        let c = cut_at m t (met_on g m b k on_m t whole) in
        let m_here = here g p b k c.front m c.rest h (sym c.is) in
        let same = once m m_here.block m_here.place a j m_here.stands m_at in
        let upto = subst (λ l. Trace g a l c.front) same.1 (subst (λ l. Trace g l m_here.place c.front) same.0 m_here.upto) in
        let d = cut_at x c.front (met_on g x a j on_x c.front upto) in
        let x_early = here g upto.path a j d.front x d.rest upto.is_path (sym d.is ∙ upto.is) in
        let one = once x x_early.block x_early.place x_here.block x_here.place x_early.stands (subst (λ i. StandsAt g i x_here.block x_here.place) e x_here.stands) in
        let early = subst (λ l. Trace g x_here.block l d.front) one.1 (subst (λ l. Trace g l x_early.place d.front) one.0 x_early.upto) in
        let round = x_here.on_from d.front early in
        let no_m : on m d.front ≡ false = false_from_ne_true (on m d.front) (λ s. both_ways (on m c.front) c.clear (subst (λ l. on m l ≡ true) (sym d.is) (on_front m d.front (x ∷ d.rest) s))) in
        let again = on_back m d.front (last.at ∷ last.rest) no_m (met_on g m b k on_m (d.front ++ last.at ∷ last.rest) round) in
        ⊎_elim (λ (s : last.at ≡ m). n s) (λ (s : on m last.rest ≡ true). both_ways (any_of E last.rest) last.clear (on_any E m last.rest s m_passes)) (on_cases m last.at last.rest again)

    is_m : last.at ≡ m
    is_m =
        ⊎_elim (λ (e : last.at ≡ m). e)
        (λ (n : last.at ≡ m → ⊥).
        ⊎_elim (λ (s : just m last.at ≡ true). eqb-true last.at m s) (λ (s : just x last.at ≡ true). absurd (not_x (eqb-true last.at x s) n))
        (or_cases (just m last.at) (just x last.at) last.passes))
        (cases_eq last.at m)
