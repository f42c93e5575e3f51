-- Blocks that lie on every path to a block.
use Rattle.std.proofs.Common.{◌≡◌, ℕ, zero, suc, ◌<◌, ◌≤◌, Bool, true, false, cond, ◌||◌, eqb, ◌⊎◌, ◌↔◌, List, [], ◌∷◌, ◌++◌, length, Some, refl, sym, ap, subst, inl, inr, ⊎_elim, arith}
use Rattle.std.proofs.lemmas.Bool.Decides.{nat_tests}
use Rattle.std.proofs.lemmas.Bool.{cases_eq, both_ways, or_left, or_right, or_from, eq-eqb, ne_eqb}
use Rattle.ms_paths.specs.Flow.{Block, HasEdge, IsPath, IsReached}
use Rattle.ms_paths.proofs.First.{first, Avoids, found, cut, shorter, by_length}

-- the list has the number
abbrev pub on : ℕ → List ℕ → Bool
on h [] = false
on h (x ∷ p) = eqb x h || on h p

pub on_here : (h : ℕ) (p : List ℕ) → on h (h ∷ p) ≡ true
on_here h p = or_left (eqb h h) (on h p) (eq-eqb h h refl)

pub on_there : (h x : ℕ) (p : List ℕ) → on h p ≡ true → on h (x ∷ p) ≡ true
on_there h x p t = or_right (eqb x h) (on h p) t

pub on_cases : (h x : ℕ) (p : List ℕ) → on h (x ∷ p) ≡ true → (x ≡ h) ⊎ (on h p ≡ true)
on_cases h x p t = grind (arith, nat_tests)

pub on_tail : (h x : ℕ) (p : List ℕ) → (x ≡ h → ⊥) → on h (x ∷ p) ≡ true → on h p ≡ true
on_tail h x p n t = grind (arith, nat_tests)

pub on_back : (h : ℕ) (u p : List ℕ) → on h u ≡ false → on h (u ++ p) ≡ true → on h p ≡ true
on_back h [] p f t = t
on_back h (x ∷ u) p f t = let r = on_back h u p in grind (arith, nat_tests)

pub on_behind : (h : ℕ) (u p : List ℕ) → on h p ≡ true → on h (u ++ p) ≡ true
on_behind h [] p t = t
on_behind h (x ∷ u) p t = on_there h x (u ++ p) (on_behind h u p t)

pub on_front : (h : ℕ) (u p : List ℕ) → on h u ≡ true → on h (u ++ p) ≡ true
on_front h [] p t = absurd (both_ways false refl t)
on_front h (x ∷ u) p t = let r = on_front h u p in grind (arith, nat_tests)

pub on_avoided : (F : ℕ → Bool) (h : ℕ) (u : List ℕ) → Avoids F u → F h ≡ true → on h u ≡ false
on_avoided F h [] a t = refl
on_avoided F h (x ∷ u) a t = let r = on_avoided F h u a.1 t in let f = a.0 in grind (arith, nat_tests)

-- a list cut at the first place of a number
pub record Cut (h : ℕ) (p : List ℕ) : Type 0 where
  pub front : List ℕ
  pub rest : List ℕ
  pub is : p ≡ front ++ h ∷ rest
  pub clear : on h front ≡ false

pub cut_at : (h : ℕ) (p : List ℕ) → on h p ≡ true → Cut h p
cut_at h [] t = absurd (both_ways false refl t)
cut_at h (x ∷ p) t =
    ⊎_elim
    (λ (e : x ≡ h). record { front = []; rest = p; is = ap (λ y. y ∷ p) e; clear = refl })
    (λ (n : x ≡ h → ⊥).
    let r = cut_at h p (on_tail h x p n t) in
    record { front = x ∷ r.front; rest = r.rest; is = ap (λ l. x ∷ l) r.is; clear = or_from (eqb x h) (on h r.front) (ne_eqb x h n) r.clear })
    (cases_eq x h)

-- what stands where a test is first met stands in the list
pub first_on : (F : ℕ → Bool) (p : List ℕ) (c : ℕ) → first F p ≡ Some c → on c p ≡ true
first_on F p c e = let r = found F p c e in subst (λ l. on c l ≡ true) (sym r.is) (on_behind c r.front (c ∷ r.rest) (on_here c r.rest))

-- every path to b passes h
pub record Over (g : List Block) (h b : ℕ) : Type 0 where
  pub passes : (p : List ℕ) → IsPath g b p → on h (b ∷ p) ≡ true

-- a number that stands before h on each path to b, and behind b: there is no path
pub no_two : (g : List Block) (b y : ℕ) → ((p : List ℕ) → IsPath g b p → on y p ≡ true) → Over g b y → (y ≡ b → ⊥) → (p : List ℕ) → IsPath g b p → ⊥
no_two g b y before over n p h = by_length P step p h
  where
    P : List ℕ → Type 0
    P p = IsPath g b p → ⊥

    step : (p : List ℕ) → ((r : List ℕ) → length r < length p → P r) → P p
    step p ih h =
        let c = cut_at y p (before p h) in
        let to_y = cut g b c.front y c.rest (subst (IsPath g b) c.is h) in
        let d = cut_at b c.rest (on_tail b y c.rest n (over.passes c.rest to_y)) in
        let to_b = cut g y d.front b d.rest (subst (IsPath g y) d.is to_y) in
        let short = shorter p c.front y c.rest c.is in
        let shorter_yet = shorter c.rest d.front b d.rest d.is in
        ih d.rest (omega arith) to_b

-- an order of the blocks in which each edge goes up, or back to a block over the one it leaves
pub record Places (g : List Block) (place : ℕ → ℕ) (n : ℕ) : Type 0 where
  pub low : (b : ℕ) → IsReached g b → place b < n
  pub edge : (a b : ℕ) → IsReached g a → HasEdge g a b → (place a < place b) ⊎ Over g b a

abbrev Below : (ℕ → ℕ) → ℕ → List ℕ → Type 0
Below place m [] = Unit {0}
Below place m (x ∷ q) = (place x < m) × Below place m q

below_more : (place : ℕ → ℕ) (m n : ℕ) (q : List ℕ) → m ≤ n → Below place m q → Below place n q
below_more place m n [] le h = tt
below_more place m n (x ∷ q) le h = (let l : place x < m = h.0 in omega arith, below_more place m n q le h.1)

below_on : (place : ℕ → ℕ) (m : ℕ) (q : List ℕ) (c : ℕ) → Below place m q → on c q ≡ true → place c < m
below_on place m [] c h t = absurd (both_ways false refl t)
below_on place m (x ∷ q) c h t = ⊎_elim (λ (e : x ≡ c). subst (λ y. place y < m) e h.0) (λ (r : on c q ≡ true). below_on place m q c h.1 r) (on_cases c x q t)

-- a path that goes up
climb : (g : List Block) (place : ℕ → ℕ) (n : ℕ) → Places g place n → (p : List ℕ) (b : ℕ) → IsPath g b p → (q : List ℕ) × IsPath g b q × Below place (place b) q
climb g place n o p b h = by_length P step p b h
  where
    P : List ℕ → Type 0
    P p = (b : ℕ) → IsPath g b p → (q : List ℕ) × IsPath g b q × Below place (place b) q

    step : (p : List ℕ) → ((r : List ℕ) → length r < length p → P r) → P p
    step [] ih b h = ([], h, tt)
    step (a ∷ p) ih b h =
        ⊎_elim
        (λ (up : place a < place b).
        let q = ih p (omega arith) a h.1 in
        let le : place a ≤ place b = omega arith in
        (a ∷ q.0, (h.0, q.1), (up, below_more place (place a) (place b) q.0 le q.2)))
        (λ (over : Over g b a).
        let c = cut_at b (a ∷ p) (over.passes p h.1) in
        let whole : IsPath g b (a ∷ p) = h in
        ih c.rest (shorter (a ∷ p) c.front b c.rest c.is) b (cut g b c.front b c.rest (subst (IsPath g b) c.is whole)))
        (o.edge a b (p, h.1) h.0)

-- a block over a reached one has a lower place
pub over_low : (g : List Block) (place : ℕ → ℕ) (n : ℕ) → Places g place n → (c b : ℕ) → IsReached g b → Over g c b → (b ≡ c) ⊎ (place c < place b)
over_low g place n o c b r over =
    let q = climb g place n o r.0 b r.1 in
    ⊎_elim (λ (e : b ≡ c). inl e) (λ (t : on c q.0 ≡ true). inr (below_on place (place b) q.0 c q.2 t)) (on_cases c b q.0 (over.passes q.0 q.1))

-- a test that tells a fact below n: there is one, where the goal is ⊥
pub told : (P : ℕ → Type 0) (n : ℕ) → ((D : ℕ → Bool) → ((x : ℕ) → x < n → (D x ≡ true) ↔ P x) → ⊥) → ⊥
told P zero k = k (λ x. false) (λ x h. absurd (omega arith))
told P (suc n) k = told P n (λ D is. both D is)
  where
    with_it : (D : ℕ → Bool) → ((x : ℕ) → x < n → (D x ≡ true) ↔ P x) → (b : Bool) → ((b ≡ true) ↔ P n) → ⊥
    with_it D is b here = k (λ x. cond (eqb x n) b (D x)) (λ x h.
        ⊎_elim
        (λ (e : x ≡ n). let t : eqb x n ≡ true = eq-eqb x n e in rw t (subst (λ y. (b ≡ true) ↔ P y) (sym e) here))
        (λ (m : x ≡ n → ⊥). let f : eqb x n ≡ false = ne_eqb x n m in let l : x < n = omega arith in rw f (is x l))
        (cases_eq x n))

    both : (D : ℕ → Bool) → ((x : ℕ) → x < n → (D x ≡ true) ↔ P x) → ⊥
    both D is = with_it D is false (λ e. absurd (both_ways false refl e), λ p. absurd (with_it D is true (λ e. p, λ q. refl)))
