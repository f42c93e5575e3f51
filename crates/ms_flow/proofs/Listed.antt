-- Which edges a list of edges to a block holds.
use Rattle.std.proofs.Common.{◌≡◌, ℕ, zero, suc, ◌+◌, ◌<◌, ◌≤◌, Bool, true, false, eqb, ◌⊎◌, List, [], ◌∷◌, ◌++◌, length, get_or, take, drop, refl, sym, ap, ◌∙◌, subst, inl, inr, ⊎_elim, arith, append_assoc}
use Rattle.std.specs.Prelude.{Contains, Some, slice_get}
use Rattle.std.proofs.lemmas.List.{take_all}
use Rattle.std.proofs.lemmas.Option.{slice_get_within, get_or_from_slice_get, same_Some}
use Rattle.std.proofs.lemmas.List.Elements.{Contains-append_cases, Contains-append_left, Contains-append_right}
use Rattle.std.proofs.lemmas.Bool.{cases_Bool, both_ways, eq-eqb, eqb-true}
use Rattle.std.proofs.lemmas.Map.Steps.{length-le_from_distinct_below}
use Rattle.std.proofs.lemmas.Map.Views.{Contains-from_any}
use Rattle.ms_paths.specs.Flow.{Block as Run, HasEdge, IsReached, IsOrder, IsOnEveryPath, IsClosed}
use Rattle.ms_flow.specs.declared.sources.Source.{Source}
use Rattle.ms_flow.specs.Table.{next_of}
use Rattle.ms_flow.specs.Flow.{walked, has_reached, slots_to, edges_to, sources_of, in_slot_of, place_of, IsFine, IsBefore, AreListed}
use Rattle.ms_flow.proofs.Edges.{edges_from}
use Rattle.ms_flow.proofs.Paths.{entry_done, reached_left, reached_told}
use Rattle.ms_flow.proofs.Orders.{IsOverPath, fine_back, fine_order, left_once}

abbrev edge : ℕ → ℕ → Source
edge a k = record { from = a; slot = k }

source_here : (x : Source) (xs : List Source) → Contains (x ∷ xs) x
source_here x xs = (0, omega arith, refl)

source_there : (x : Source) (xs : List Source) (y : Source) → Contains xs y → Contains (x ∷ xs) y
source_there x xs y h = (suc h.0, omega (arith, h.1), h.2)

source_none : (y : Source) → Contains [] y → ⊥
source_none y h = omega (arith, h.1)

source_cons : (x : Source) (xs : List Source) (y : Source) → Contains (x ∷ xs) y → (x ≡ y) ⊎ Contains xs y
source_cons x xs y h = at h.0 h.1 h.2
  where
    at : (k : ℕ) → k < length (x ∷ xs) → get_or (x ∷ xs) k y ≡ y → (x ≡ y) ⊎ Contains xs y
    at zero lt e = inl e
    at (suc k) lt e = inr (k, omega arith, e)

-- an edge to b at one of these targets, the first of which has the slot j
record IsAtSlot (a b j : ℕ) (ts : List ℕ) (e : Source) : Type 0 where
  k : ℕ
  below : k < length ts
  target : get_or ts k 0 ≡ b
  from : e.from ≡ a
  slot : e.slot ≡ j + k

slots_hold : (a b : ℕ) (ts : List ℕ) (j : ℕ) (e : Source) → Contains (slots_to a b j ts) e → IsAtSlot a b j ts e
slots_hold a b [] j e h = absurd (source_none e h)
slots_hold a b (t ∷ ts) j e h =
    ⊎_elim
    (λ (y : eqb t b ≡ true).
    let h' : Contains (edge a j ∷ slots_to a b (j + 1) ts) e = rw y at h in
    ⊎_elim
    (λ (s : edge a j ≡ e). record { k = 0; below = omega arith; target = eqb-true t b y; from = sym (ap (λ (x : Source). x.from) s); slot = sym (ap (λ (x : Source). x.slot) s) ∙ omega arith })
    (λ (i : Contains (slots_to a b (j + 1) ts) e). more (slots_hold a b ts (j + 1) e i))
    (source_cons (edge a j) (slots_to a b (j + 1) ts) e h'))
    (λ (n : eqb t b ≡ false). let h' : Contains (slots_to a b (j + 1) ts) e = rw n at h in more (slots_hold a b ts (j + 1) e h'))
    (cases_Bool (eqb t b))
  where
    more : IsAtSlot a b (j + 1) ts e → IsAtSlot a b j (t ∷ ts) e
    more r = let below = r.below in let slot = r.slot in record { k = suc r.k; below = omega arith; target = r.target; from = r.from; slot = omega arith }

slots_have : (a b : ℕ) (ts : List ℕ) (j k m : ℕ) → k < length ts → get_or ts k 0 ≡ b → m ≡ j + k → Contains (slots_to a b j ts) (edge a m)
slots_have a b [] j k m lt t e = absurd (omega arith)
slots_have a b (t ∷ ts) j zero m lt is e =
    let y = eq-eqb t b is in
    let same : m ≡ j = omega arith in
    rw (y, same) (source_here (edge a j) (slots_to a b (j + 1) ts))
slots_have a b (t ∷ ts) j (suc k) m lt is e =
    let r = slots_have a b ts (j + 1) k m (omega arith) is (omega arith) in
    ⊎_elim (λ (y : eqb t b ≡ true). rw y (source_there (edge a j) (slots_to a b (j + 1) ts) (edge a m) r)) (λ (n : eqb t b ≡ false). rw n r) (cases_Bool (eqb t b))

-- an edge to b from one of these blocks, the first of which is a
pub record IsFrom (R : ℕ → Bool) (b a : ℕ) (g : List Run) (e : Source) : Type 0 where
  pub k : ℕ
  pub below : k < length g
  pub from : e.from ≡ a + k
  pub counts : R e.from ≡ true
  pub slot : e.slot < length (next_of g k)
  pub target : get_or (next_of g k) e.slot 0 ≡ b

pub edges_hold : (R : ℕ → Bool) (b a : ℕ) (g : List Run) (e : Source) → Contains (edges_to R b a g) e → IsFrom R b a g e
edges_hold R b a [] e h = absurd (source_none e h)
edges_hold R b a (x ∷ g) e h =
    ⊎_elim
    (λ (i : Contains (edges_from R b a x.next) e).
    ⊎_elim
    (λ (y : R a ≡ true).
    let i' : Contains (slots_to a b 0 x.next) e = rw y at i in
    let r = slots_hold a b x.next 0 e i' in
    let below = r.below in
    let slot = r.slot in
    let same : e.slot ≡ r.k = omega arith in
    let from = r.from in
    record { k = 0; below = omega arith; from = omega arith; counts = ap R r.from ∙ y; slot = omega arith; target = ap (λ s. get_or x.next s 0) same ∙ r.target })
    (λ (n : R a ≡ false). let i' : Contains [] e = rw n at i in absurd (source_none e i'))
    (cases_Bool (R a)))
    (λ (i : Contains (edges_to R b (a + 1) g) e).
    let r = edges_hold R b (a + 1) g e i in
    let below = r.below in
    let from = r.from in
    record { k = suc r.k; below = omega arith; from = omega arith; counts = r.counts; slot = r.slot; target = r.target })
    (Contains-append_cases (edges_from R b a x.next) (edges_to R b (a + 1) g) e h)

pub edges_have : (R : ℕ → Bool) (b a : ℕ) (g : List Run) (k m s : ℕ) → k < length g → m ≡ a + k → R m ≡ true → s < length (next_of g k) → get_or (next_of g k) s 0 ≡ b → Contains (edges_to R b a g) (edge m s)
edges_have R b a [] k m s lt e on below is = absurd (omega arith)
edges_have R b a (x ∷ g) zero m s lt e on below is =
    let same : m ≡ a = omega arith in
    let on' : R a ≡ true = subst (λ y. R y ≡ true) same on in
    let all : edges_from R b a x.next ≡ slots_to a b 0 x.next = rw on' refl in
    Contains-append_left (edges_from R b a x.next) (edges_to R b (a + 1) g) (edge m s) (rw (all, same) (slots_have a b x.next 0 s s below is (omega arith)))
edges_have R b a (x ∷ g) (suc k) m s lt e on below is =
    Contains-append_right (edges_from R b a x.next) (edges_to R b (a + 1) g) (edge m s) (edges_have R b (a + 1) g k m s (omega arith) (omega arith) on below is)

seen_below : (l : List Bool) (x : ℕ) → get_or l x false ≡ true → x < length l
seen_below [] x h = absurd (both_ways false refl h)
seen_below (m ∷ l) zero h = omega arith
seen_below (m ∷ l) (suc x) h = let r = seen_below l x h in omega arith

-- a reached block is a block
pub reached_below : (g : List Run) → IsClosed g → (b : ℕ) → IsReached g b → b < length g
reached_below g closed b r =
    let size = (entry_done g closed).sized in
    let seen = seen_below (walked g).seen b ((reached_told g closed b).1 r) in
    omega arith

-- no more blocks are left than there are
pub left_few : (g : List Run) → IsClosed g → length (walked g).left ≤ length g
left_few g closed =
    length-le_from_distinct_below (walked g).left (length g) (left_once g closed)
    (λ x t. reached_below g closed x ((reached_left g closed x).0 (Contains-from_any eqb-true x (walked g).left t)))

pub source_within : (g : List Run) (b : ℕ) (e : Source) → Contains (sources_of g b) e → e.from < length g
source_within g b e h = let r = edges_hold (has_reached g) b 0 g e h in let from = r.from in let below = r.below in omega arith

-- the source is an edge from a reached block
pub source_edge : (g : List Run) → IsClosed g → (b : ℕ) (e : Source) → Contains (sources_of g b) e → IsReached g e.from × HasEdge g e.from b
source_edge g closed b e h =
    let r = edges_hold (has_reached g) b 0 g e h in
    let same : r.k ≡ e.from = let from = r.from in omega arith in (
      (reached_told g closed e.from).0 r.counts,
      subst (λ k. HasEdge g k b) same (e.slot, r.slot, inside (next_of g r.k) e.slot b r.slot r.target),
    )
  where
    inside : (ts : List ℕ) (s b : ℕ) → s < length ts → get_or ts s 0 ≡ b → get_or ts s b ≡ b
    inside [] s b lt e = absurd (omega arith)
    inside (t ∷ ts) zero b lt e = e
    inside (t ∷ ts) (suc s) b lt e = inside ts s b (omega arith) e

pub edge_source : (g : List Run) → IsClosed g → (a b : ℕ) → IsReached g a → HasEdge g a b → (s : ℕ) × Contains (sources_of g b) (record { from = a; slot = s })
edge_source g closed a b reached h =
    (h.0, edges_have (has_reached g) b 0 g a a h.0 (reached_below g closed a reached) (omega arith) ((reached_told g closed a).1 reached) h.1 (inside (next_of g a) h.0 b h.1 h.2))
  where
    inside : (ts : List ℕ) (s b : ℕ) → s < length ts → get_or ts s b ≡ b → get_or ts s 0 ≡ b
    inside [] s b lt e = absurd (omega arith)
    inside (t ∷ ts) zero b lt e = e
    inside (t ∷ ts) (suc s) b lt e = inside ts s b (omega arith) e

-- each edge is fine where each edge of the lists is
pub all_fine : (g : List Run) → IsClosed g → ((b : ℕ) → b < length g → (e : Source) → Contains (sources_of g b) e → IsFine g e.from b) → IsOrder g (place_of g)
all_fine g closed fine = fine_order g closed (λ a b r h. let s = edge_source g closed a b r h in fine b (closed.edges_in a b h) (record { from = a; slot = s.0 }) s.1)

-- each edge of the lists of a reducible graph is fine
pub reducible_fine : (g : List Run) → IsClosed g → ((a b : ℕ) → IsOverPath g a b → HasEdge g a b → IsOnEveryPath g b a) → (b : ℕ) (e : Source) → Contains (sources_of g b) e → IsFine g e.from b
reducible_fine g closed over b e h =
    let s = source_edge g closed b e h in
    fine_back g closed e.from b s.0 s.1 (λ p. over e.from b p s.1)

pub list_is : (g : List Run) (lists : List (List Source)) (slots : List ℕ) (b : ℕ) → AreListed (has_reached g) g (length g) lists slots → b < length g → get_or lists b [] ≡ sources_of g b
list_is g lists slots b listed lt = listed.edges b lt ∙ ap (edges_to (has_reached g) b 0) (take_all (length g) g (omega arith))

get_front : (xs ys : List Source) (y : Source) → slice_get (xs ++ y ∷ ys) (length xs) ≡ Some y
get_front [] ys y = refl
get_front (x ∷ xs) ys y = get_front xs ys y

get_past : (xs ys : List Source) (k : ℕ) → slice_get (xs ++ ys) (length xs + k) ≡ slice_get ys k
get_past [] ys k = let e : 0 + k ≡ k = omega arith in ap (slice_get ys) e
get_past (x ∷ xs) ys k = let e : length (x ∷ xs) + k ≡ suc (length xs + k) = omega arith in ap (slice_get (x ∷ (xs ++ ys))) e ∙ get_past xs ys k

slots_split : (a b : ℕ) (ts : List ℕ) (k j m : ℕ) → k < length ts → get_or ts k 0 ≡ b → m ≡ j + k → slots_to a b j ts ≡ slots_to a b j (take k ts) ++ edge a m ∷ slots_to a b (m + 1) (drop (suc k) ts)
slots_split a b [] k j m lt is e = absurd (omega arith)
slots_split a b (t ∷ ts) zero j m lt is e =
    let y = eq-eqb t b is in
    let same : j ≡ m = omega arith in
    rw y (ap (λ i. edge a i ∷ slots_to a b (i + 1) ts) same)
slots_split a b (t ∷ ts) (suc k) j m lt is e =
    let r = slots_split a b ts k (j + 1) m (omega arith) is (omega arith) in
    ⊎_elim (λ (y : eqb t b ≡ true). rw y (ap (λ (l : List Source). edge a j ∷ l) r)) (λ (n : eqb t b ≡ false). rw n r) (cases_Bool (eqb t b))

edges_split : (R : ℕ → Bool) (b : ℕ) (g : List Run) (k j m : ℕ) → k < length g → m ≡ j + k → edges_to R b j g ≡ edges_to R b j (take k g) ++ (edges_from R b m (next_of g k) ++ edges_to R b (m + 1) (drop (suc k) g))
edges_split R b [] k j m lt e = absurd (omega arith)
edges_split R b (x ∷ g) zero j m lt e =
    let same : j ≡ m = omega arith in
    ap (λ i. edges_from R b i x.next ++ edges_to R b (i + 1) g) same
edges_split R b (x ∷ g) (suc k) j m lt e =
    ap (λ (l : List Source). edges_from R b j x.next ++ l) (edges_split R b g k (j + 1) m (omega arith) (omega arith))
    ∙ sym (append_assoc (edges_from R b j x.next) (edges_to R b (j + 1) (take k g)) (edges_from R b m (next_of g k) ++ edges_to R b (m + 1) (drop (suc k) g)))

-- an edge from a block that counts stands at its place
pub edge_stands : (R : ℕ → Bool) (g : List Run) (a s b : ℕ) → a < length g → R a ≡ true → s < length (next_of g a) → b ≡ get_or (next_of g a) s 0 → slice_get (edges_to R b 0 g) (in_slot_of R g a s) ≡ Some (record { from = a; slot = s })
edge_stands R g a s b lt on below is =
    let P = edges_to R b 0 (take a g) in
    let Q = slots_to a b 0 (take s (next_of g a)) in
    let S = slots_to a b (s + 1) (drop (suc s) (next_of g a)) in
    let T = edges_to R b (a + 1) (drop (suc a) g) in
    let all : edges_from R b a (next_of g a) ≡ slots_to a b 0 (next_of g a) = rw on refl in
    let whole : edges_to R b 0 g ≡ P ++ ((Q ++ edge a s ∷ S) ++ T) =
    edges_split R b g a 0 a lt (omega arith) ∙ ap (λ (l : List Source). P ++ (l ++ T)) (all ∙ slots_split a b (next_of g a) s 0 s below (sym is) (omega arith)) in
    let place : in_slot_of R g a s ≡ length P + length Q = ap (λ t. length (edges_to R t 0 (take a g)) + length (slots_to a t 0 (take s (next_of g a)))) (sym is) in
    ap (slice_get (edges_to R b 0 g)) place ∙ ap (λ (l : List Source). slice_get l (length P + length Q)) whole
    ∙ get_past P ((Q ++ edge a s ∷ S) ++ T) (length Q) ∙ ap (λ (l : List Source). slice_get l (length Q)) (append_assoc Q (edge a s ∷ S) T)
    ∙ get_front Q (S ++ T) (edge a s)

-- each edge stands before the later ones
abbrev Ascends : List Source → Type 0
Ascends [] = Unit {0}
Ascends (x ∷ l) = ((e : Source) → Contains l e → IsBefore x e) × Ascends l

ascends_append : (xs ys : List Source) → Ascends xs → Ascends ys → ((d e : Source) → Contains xs d → Contains ys e → IsBefore d e) → Ascends (xs ++ ys)
ascends_append [] ys a b h = b
ascends_append (x ∷ xs) ys a b h = (
  λ e i. ⊎_elim (λ (k : Contains xs e). a.0 e k) (λ (k : Contains ys e). h x e (source_here x xs) k) (Contains-append_cases xs ys e i),
  ascends_append xs ys a.1 b (λ d e i k. h d e (source_there x xs d i) k),
)

slots_ascend : (a b : ℕ) (ts : List ℕ) (j : ℕ) → Ascends (slots_to a b j ts)
slots_ascend a b [] j = tt
slots_ascend a b (t ∷ ts) j =
    let r = slots_ascend a b ts (j + 1) in
    ⊎_elim
    (λ (y : eqb t b ≡ true). rw y (λ e i. let s = slots_hold a b ts (j + 1) e i in let from = s.from in let slot = s.slot in inr (sym from, omega arith), r))
    (λ (n : eqb t b ≡ false). rw n r)
    (cases_Bool (eqb t b))

from_ascends : (R : ℕ → Bool) (b a : ℕ) (next : List ℕ) → Ascends (edges_from R b a next)
from_ascends R b a next = ⊎_elim (λ (y : R a ≡ true). rw y (slots_ascend a b next 0)) (λ (n : R a ≡ false). rw n tt) (cases_Bool (R a))

from_here : (R : ℕ → Bool) (b a : ℕ) (next : List ℕ) (e : Source) → Contains (edges_from R b a next) e → e.from ≡ a
from_here R b a next e h =
    ⊎_elim (λ (y : R a ≡ true). let h' : Contains (slots_to a b 0 next) e = rw y at h in (slots_hold a b next 0 e h').from)
    (λ (n : R a ≡ false). let h' : Contains [] e = rw n at h in absurd (source_none e h'))
    (cases_Bool (R a))

edges_ascend : (R : ℕ → Bool) (b a : ℕ) (g : List Run) → Ascends (edges_to R b a g)
edges_ascend R b a [] = tt
edges_ascend R b a (x ∷ g) =
    ascends_append (edges_from R b a x.next) (edges_to R b (a + 1) g) (from_ascends R b a x.next) (edges_ascend R b (a + 1) g)
    (λ d e i k. let here = from_here R b a x.next d i in let r = edges_hold R b (a + 1) g e k in let there = r.from in inl (omega arith))

get_in : (l : List Source) (i : ℕ) (e : Source) → slice_get l i ≡ Some e → Contains l e
get_in l i e h = (i, slice_get_within l i e h, get_or_from_slice_get l i e e h)

ascends_get : (l : List Source) → Ascends l → (i j : ℕ) (d e : Source) → i < j → slice_get l i ≡ Some d → slice_get l j ≡ Some e → IsBefore d e
ascends_get [] a i j d e lt f h = cc
ascends_get (x ∷ l) a i zero d e lt f h = absurd (omega arith)
ascends_get (x ∷ l) a zero (suc j) d e lt f h =
    let same : x ≡ d = same_Some x d f in
    subst (λ (y : Source). IsBefore y e) same (a.0 e (get_in l j e h))
ascends_get (x ∷ l) a (suc i) (suc j) d e lt f h = ascends_get l a.1 i j d e (omega arith) f h

pub sources_order : (g : List Run) (b i j : ℕ) (d e : Source) → i < j → slice_get (sources_of g b) i ≡ Some d → slice_get (sources_of g b) j ≡ Some e → IsBefore d e
sources_order g b i j d e lt f h = ascends_get (sources_of g b) (edges_ascend (has_reached g) b 0 g) i j d e lt f h

pub source_told : (g : List Run) → IsClosed g → (b : ℕ) (e : Source) → Contains (sources_of g b) e → IsReached g e.from × (e.slot < length (next_of g e.from)) × (get_or (next_of g e.from) e.slot 0 ≡ b)
source_told g closed b e h =
    let r = edges_hold (has_reached g) b 0 g e h in
    let same : r.k ≡ e.from = let from = r.from in omega arith in (
      (reached_told g closed e.from).0 r.counts,
      subst (λ k. e.slot < length (next_of g k)) same r.slot,
      subst (λ k. get_or (next_of g k) e.slot 0 ≡ b) same r.target,
    )

pub source_all : (g : List Run) → IsClosed g → (a slot : ℕ) → IsReached g a → slot < length (next_of g a) → Contains (sources_of g (get_or (next_of g a) slot 0)) (record { from = a; slot = slot })
source_all g closed a slot reached lt =
    edges_have (has_reached g) (get_or (next_of g a) slot 0) 0 g a a slot (reached_below g closed a reached) (omega arith) ((reached_told g closed a).1 reached) lt refl
