-- Where instructions stand, and what is met before a place.
use Rattle.std.proofs.Common.{◌≡◌, ℕ, zero, suc, ◌<◌, Bool, cond, List, [], ◌∷◌, length, take, Some, None, refl, sym, ap, ◌∙◌, subst, inl, inr, ⊎_elim, arith, take_all}
use Rattle.std.specs.Prelude.{Contains, slice_get}
use Rattle.std.proofs.lemmas.Bool.{cases_eq}
use Rattle.ms_paths.proofs.Bridge.{Contains-here, Contains-there}
use Rattle.ms_paths.specs.Flow.{Block, block_at, Event, Of, after, entered, last_event, last_event_at, IsMet, StandsAt, StandsInOnePlace, StandsOnce}

-- the place of an instruction among the first ones
pub taken : (is : List ℕ) (k i : ℕ) → Contains (take k is) i → (j : ℕ) × (j < k) × (slice_get is j ≡ Some i)
taken is zero i (n, lt, e) = absurd (let l : n < 0 = lt in omega arith)
taken [] (suc k) i (n, lt, e) = absurd (let l : n < 0 = lt in omega arith)
taken (x ∷ is) (suc k) i (zero, lt, e) = (zero, omega arith, ap Some e)
taken (x ∷ is) (suc k) i (suc n, lt, e) = let r = taken is k i (n, omega arith, e) in let l = r.1 in (suc r.0, omega arith, r.2)

pub taken_in : (is : List ℕ) (k j i : ℕ) → j < k → slice_get is j ≡ Some i → Contains (take k is) i
taken_in is zero j i lt e = absurd (omega arith)
taken_in [] (suc k) j i lt e = cc
taken_in (x ∷ is) (suc k) zero i lt e = let same : x ≡ i = cc in (zero, omega arith, same)
taken_in (x ∷ is) (suc k) (suc j) i lt e = let r = taken_in is k j i (omega arith) e in let l = r.1 in (suc r.0, omega arith, r.2)

pub got : (xs : List ℕ) (x : ℕ) → Contains xs x → (k : ℕ) × (slice_get xs k ≡ Some x)
got [] x (k, lt, is) = absurd (let l : k < 0 = lt in omega arith)
got (y ∷ xs) x (zero, lt, is) = (zero, ap Some is)
got (y ∷ xs) x (suc k, lt, is) = let r = got xs x (k, omega arith, is) in (suc r.0, r.1)

pub stands_in : (g : List Block) (i b k : ℕ) → StandsAt g i b k → Contains (block_at g b).events i
stands_in g i b k e = go (block_at g b).events k e
  where
    go : (is : List ℕ) (k : ℕ) → slice_get is k ≡ Some i → Contains is i
    go [] k e = cc
    go (x ∷ is) zero e = let same : x ≡ i = cc in (zero, omega arith, same)
    go (x ∷ is) (suc k) e = let r = go is k e in let l = r.1 in (suc r.0, omega arith, r.2)

pub stands_once : (g : List Block) → StandsInOnePlace g → StandsOnce g
stands_once g once a b i x y = let j = got (block_at g a).events i x in let k = got (block_at g b).events i y in (once i a j.0 b k.0 j.1 k.1).0

take_past : (is : List ℕ) (n : ℕ) → slice_get is n ≡ None → take (suc n) is ≡ take n is
take_past [] zero e = refl
take_past [] (suc n) e = refl
take_past (x ∷ is) zero e = cc
take_past (x ∷ is) (suc n) e = ap (λ l. x ∷ l) (take_past is n e)

-- the last event one instruction further
pub last_step : (g : List Block) (E S : ℕ → Bool) (b n i : ℕ) (p : List ℕ) → StandsAt g i b n →
    last_event_at g E S b (suc n) p ≡ cond (E i) (Of i) (last_event_at g E S b n p)
last_step g E S b n i p e = go (block_at g b).events n (entered S b (last_event g E S p)) e
  where
    go : (is : List ℕ) (n : ℕ) (d : Event) → slice_get is n ≡ Some i → after E (take (suc n) is) d ≡ cond (E i) (Of i) (after E (take n is) d)
    go [] n d e = cc
    go (x ∷ is) zero d e = let same : x ≡ i = cc in ap (λ y. cond (E y) (Of y) d) same
    go (x ∷ is) (suc n) d e = go is n (cond (E x) (Of x) d) e

-- past the end of a block nothing comes
pub last_past : (g : List Block) (E S : ℕ → Bool) (b n : ℕ) (p : List ℕ) → slice_get (block_at g b).events n ≡ None →
    last_event_at g E S b (suc n) p ≡ last_event_at g E S b n p
last_past g E S b n p e = ap (λ is. after E is (entered S b (last_event g E S p))) (take_past (block_at g b).events n e)

pub last_whole : (g : List Block) (E S : ℕ → Bool) (a : ℕ) (p : List ℕ) →
    last_event g E S (a ∷ p) ≡ last_event_at g E S a (length (block_at g a).events) p
last_whole g E S a p = ap (λ is. after E is (entered S a (last_event g E S p))) (sym (take_all (length (block_at g a).events) (block_at g a).events (omega arith)))

pub met_more : (g : List Block) (q b n : ℕ) (p : List ℕ) → IsMet g q b n p → IsMet g q b (suc n) p
met_more g q b n p (inl m) = let r = taken (block_at g b).events n q m in let l = r.1 in inl (taken_in (block_at g b).events (suc n) r.0 q (omega arith) r.2)
met_more g q b n p (inr m) = inr m

pub met_step : (g : List Block) (q b n i : ℕ) (p : List ℕ) → StandsAt g i b n → (i ≡ q → ⊥) → IsMet g q b (suc n) p → IsMet g q b n p
met_step g q b n i p e ne (inr m) = inr m
met_step g q b n i p e ne (inl m) =
    let r = taken (block_at g b).events (suc n) q m in
    let l = r.1 in
    ⊎_elim
    (λ (same : r.0 ≡ n).
    let at : slice_get (block_at g b).events n ≡ Some q = subst (λ y. slice_get (block_at g b).events y ≡ Some q) same r.2 in
    let one : Some i ≡ Some q = sym e ∙ at in
    absurd (ne (let o : i ≡ q = cc in o)))
    (λ (other : r.0 ≡ n → ⊥). inl (taken_in (block_at g b).events n r.0 q (omega arith) r.2))
    (cases_eq r.0 n)

pub met_past : (g : List Block) (q b n : ℕ) (p : List ℕ) → slice_get (block_at g b).events n ≡ None → IsMet g q b (suc n) p → IsMet g q b n p
met_past g q b n p e (inr m) = inr m
met_past g q b n p e (inl m) = inl (subst (λ is. Contains is q) (take_past (block_at g b).events n e) m)

-- what is met before a block is met before each place of it
pub met_start : (g : List Block) (q b n : ℕ) (p : List ℕ) → IsMet g q b 0 p → IsMet g q b n p
met_start g q b n p (inl m) = absurd (let l : m.0 < 0 = m.1 in omega arith)
met_start g q b n p (inr m) = inr m

-- what is met up to the end of a block is met before the next one
pub met_whole : (g : List Block) (q a : ℕ) (p : List ℕ) → IsMet g q a (length (block_at g a).events) p → (x : ℕ) × Contains (a ∷ p) x × Contains (block_at g x).events q
met_whole g q a p (inl m) = (a, Contains-here a p, subst (λ is. Contains is q) (take_all (length (block_at g a).events) (block_at g a).events (omega arith)) m)
met_whole g q a p (inr m) = (m.0, Contains-there a m.0 p m.1, m.2)

pub whole_met : (g : List Block) (q a b : ℕ) (p : List ℕ) → IsMet g q b 0 (a ∷ p) → IsMet g q a (length (block_at g a).events) p
whole_met g q a b p (inl m) = absurd (let l : m.0 < 0 = m.1 in omega arith)
whole_met g q a b p (inr (x, (zero, lt, e), m)) =
    inl (subst (λ is. Contains is q) (sym (take_all (length (block_at g a).events) (block_at g a).events (omega arith))) (subst (λ y. Contains (block_at g y).events q) (sym e) m))
whole_met g q a b p (inr (x, (suc n, lt, e), m)) = inr (x, (n, omega arith, e), m)
