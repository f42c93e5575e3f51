-- Instructions on every path to a point come in one order.
use Rattle.std.proofs.Common.{◌≡◌, ℕ, Bool, true, false, ◌⊎◌, List, [], ◌∷◌, ◌++◌, take, refl, sym, ◌∙◌, subst, inl, inr, ⊎_elim}
use Rattle.std.specs.Prelude.{Contains}
use Rattle.std.proofs.lemmas.Bool.{cases_Bool, both_ways, or_left, or_right, or_cases, eqb-true, eq-eqb}
use Rattle.ms_paths.specs.Flow.{Block, block_at, IsPath, IsReached, IsMet, LiesOnEvery, and_one, just, StandsAt, StandsInOnePlace}
use Rattle.ms_paths.proofs.Bridge.{any_of, Contains-here, Contains-there}
use Rattle.ms_paths.proofs.Order.{on, on_cases, on_back, on_front, cut_at}
use Rattle.ms_paths.proofs.Reduce.{on_contains}
use Rattle.ms_paths.proofs.Ran.{ran, Trace, Here, here, met_on, Last, last_of, on_any}

on_parts : (h : ℕ) (u v : List ℕ) → on h (u ++ v) ≡ true → (on h u ≡ true) ⊎ (on h v ≡ true)
on_parts h u v t = ⊎_elim (λ (s : on h u ≡ true). inl s) (λ (f : on h u ≡ false). inr (on_back h u v f t)) (cases_Bool (on h u))

on_ran : (g : List Block) (i : ℕ) (p : List ℕ) → on i (ran g p) ≡ true → (a : ℕ) × Contains p a × Contains (block_at g a).events i
on_ran g i [] t = absurd (both_ways false refl t)
on_ran g i (b ∷ p) t =
    ⊎_elim (λ (s : on i (ran g p) ≡ true). let r = on_ran g i p s in (r.0, Contains-there b r.0 p r.1, r.2))
    (λ (s : on i (block_at g b).events ≡ true). (b, Contains-here b p, on_contains i (block_at g b).events s))
    (on_parts i (ran g p) (block_at g b).events t)

-- what is run before a point on a path
abbrev so_far : List Block → ℕ → ℕ → List ℕ → List ℕ
so_far g b k p = ran g p ++ take k (block_at g b).events

on_met : (g : List Block) (i b k : ℕ) (p : List ℕ) → on i (so_far g b k p) ≡ true → IsMet g i b k p
on_met g i b k p t =
    ⊎_elim (λ (s : on i (ran g p) ≡ true). inr (on_ran g i p s))
    (λ (s : on i (take k (block_at g b).events) ≡ true). inl (on_contains i (take k (block_at g b).events) s))
    (on_parts i (ran g p) (take k (block_at g b).events) t)

as_trace : (g : List Block) (b k : ℕ) (p : List ℕ) → IsPath g b p → Trace g b k (so_far g b k p)
as_trace g b k p h = record { path = p; is_path = h; is = refl }

-- of two that lie on every path to a reached point, one lies on every path to the other
pub one_before : (g : List Block) (m x a j c i b k : ℕ) → StandsInOnePlace g → StandsAt g m a j → StandsAt g x c i → (m ≡ x → ⊥) → IsReached g b →
    LiesOnEvery g m b k → LiesOnEvery g x b k → (LiesOnEvery g x a j → ⊥) → LiesOnEvery g m c i
one_before g m x a j c i b k once m_at x_at apart r on_m on_x not_before = λ p h.
    ⊎_elim (λ (t : on m (so_far g c i p) ≡ true). on_met g m c i p t)
    (λ (f : on m (so_far g c i p) ≡ false). absurd (not_before (λ q hq.
    ⊎_elim (λ (t : on x (so_far g a j q) ≡ true). on_met g x a j q t)
    (λ (n : on x (so_far g a j q) ≡ false). absurd (neither p h f q hq n))
    (cases_Bool (on x (so_far g a j q))))))
    (cases_Bool (on m (so_far g c i p)))
  where
    E : ℕ → Bool
    E = and_one m (just x)

    t : List ℕ
    t = so_far g b k r.0

    last : Last E t
    last = last_of E t (on_any E m t (met_on g m b k on_m t (as_trace g b k r.0 r.1)) (or_left (just m m) (just x m) (eq-eqb m m refl)))

    at : Here g b k last.front last.at last.rest
    at = here g r.0 b k last.front last.at last.rest r.1 (sym last.is)

    -- a way to the last of the two past the other leads on to the point past the other
    no_way : (y z d e : ℕ) → StandsAt g y d e → last.at ≡ y → (y ≡ z → ⊥) → E z ≡ true → LiesOnEvery g z b k → (p : List ℕ) → IsPath g d p → on z (so_far g d e p) ≡ false → ⊥
    no_way y z d e y_at is ne passes lies p h f =
        let same = once y d e at.block at.place y_at (subst (λ l. StandsAt g l at.block at.place) is at.stands) in
        let tr = subst (λ l. Trace g at.block l (so_far g d e p)) same.1 (subst (λ l. Trace g l e (so_far g d e p)) same.0 (as_trace g d e p h)) in
        let on_z = on_back z (so_far g d e p) (last.at ∷ last.rest) f (met_on g z b k lies (so_far g d e p ++ last.at ∷ last.rest) (at.on_from (so_far g d e p) tr)) in
        ⊎_elim (λ (s : last.at ≡ z). ne (sym is ∙ s)) (λ (s : on z last.rest ≡ true). both_ways (any_of E last.rest) last.clear (on_any E z last.rest s passes)) (on_cases z last.at last.rest on_z)

    neither : (p : List ℕ) → IsPath g c p → on m (so_far g c i p) ≡ false → (q : List ℕ) → IsPath g a q → on x (so_far g a j q) ≡ false → ⊥
    neither p h f q hq n =
        ⊎_elim
        (λ (s : just m last.at ≡ true). no_way m x a j m_at (eqb-true last.at m s) apart (or_right (just m x) (just x x) (eq-eqb x x refl)) on_x q hq n)
        (λ (s : just x last.at ≡ true). no_way x m c i x_at (eqb-true last.at x s) (λ e. apart (sym e)) (or_left (just m m) (just x m) (eq-eqb m m refl)) on_m p h f)
        (or_cases (just m last.at) (just x last.at) last.passes)

-- two instructions do not lie on every path to one another
pub not_both : (g : List Block) (m x a j c i : ℕ) → StandsInOnePlace g → StandsAt g m a j → StandsAt g x c i → IsReached g a →
    LiesOnEvery g x a j → LiesOnEvery g m c i → ⊥
not_both g m x a j c i once m_at x_at r on_x on_m =
    let t : List ℕ = so_far g a j r.0 in
    let u = cut_at x t (met_on g x a j on_x t (as_trace g a j r.0 r.1)) in
    let x_here = here g r.0 a j u.front x u.rest r.1 (sym u.is) in
    let same = once x x_here.block x_here.place c i x_here.stands x_at in
    let upto = subst (λ l. Trace g c l u.front) same.1 (subst (λ l. Trace g l x_here.place u.front) same.0 x_here.upto) in
    let v = cut_at m u.front (met_on g m c i on_m u.front upto) in
    let m_here = here g upto.path c i v.front m v.rest upto.is_path (sym v.is ∙ upto.is) in
    let same_m = once m m_here.block m_here.place a j m_here.stands m_at in
    let upto_m = subst (λ l. Trace g a l v.front) same_m.1 (subst (λ l. Trace g l m_here.place v.front) same_m.0 m_here.upto) in
    both_ways (on x u.front) u.clear (subst (λ l. on x l ≡ true) (sym v.is) (on_front x v.front (m ∷ v.rest) (met_on g x a j on_x v.front upto_m)))
