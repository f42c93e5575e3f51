-- The order in which a walk has left the blocks.
use Rattle.std.proofs.Common.{◌≡◌, ℕ, zero, suc, ◌+◌, ◌-◌, ◌<◌, Bool, true, false, ◌⊎◌, ◌↔◌, List, [], ◌∷◌, length, get_or, replicate, reverse, refl, sym, ap, ◌∙◌, subst, inl, inr, ⊎_elim, arith, add-one}
use Rattle.std.specs.Prelude.{Contains, Option, Some, None, option_map, unwrap_or, is_some, nat_eq, slice_get, MatchOption}
use Rattle.std.specs.List.{IsDistinct}
use Rattle.std.proofs.lemmas.Bool.{cases_eq, both_ways, eq-eqb, ne_eqb}
use Rattle.std.proofs.lemmas.List.{get_or-reverse, reverse-reverse, length-reverse}
use Rattle.std.proofs.lemmas.Option.{slice_get_within, slice_get-get_or, same_Some}
use Rattle.ms_paths.specs.Flow.{Block as Run, HasEdge, IsPath, IsReached, IsOnEveryPath, IsOrder, IsClosed}
use Rattle.ms_flow.specs.Flow.{walked, place_in, order_of, place_of, IsFine}
use Rattle.ms_flow.proofs.Members.{here_is, there, in_none, in_cons, AreApart, distinct}
use Rattle.ms_flow.proofs.Walks.{marked, IsBack, AreLeft}
use Rattle.ms_flow.proofs.Paths.{entry_done, reached_left, none_marked, leads_path}

place_here : (x : ℕ) (l : List ℕ) (b : ℕ) → x ≡ b → place_in (x ∷ l) b ≡ Some 0
place_here x l b e = let t = eq-eqb x b e in rw t refl

place_past : (x : ℕ) (l : List ℕ) (b : ℕ) → (x ≡ b → ⊥) → place_in (x ∷ l) b ≡ option_map (λ k. k + 1) (place_in l b)
place_past x l b n = let f = ne_eqb x b n in rw f refl

place_next : (x : ℕ) (l : List ℕ) (b i : ℕ) → (x ≡ b → ⊥) → place_in l b ≡ Some i → place_in (x ∷ l) b ≡ Some (i + 1)
place_next x l b i n e = place_past x l b n ∙ ap (option_map (λ k. k + 1)) e

-- a block that was left has a place
pub place_some : (l : List ℕ) (b : ℕ) → Contains l b → (i : ℕ) × (place_in l b ≡ Some i)
place_some [] b h = absurd (in_none b h)
place_some (x ∷ l) b h =
    ⊎_elim (λ (e : x ≡ b). (0, place_here x l b e))
    (λ (n : x ≡ b → ⊥).
    let inside : Contains l b = ⊎_elim (λ (e : x ≡ b). absurd (n e)) (λ (i : Contains l b). i) (in_cons x l b h) in
    let r = place_some l b inside in
    (r.0 + 1, place_next x l b r.0 n r.1))
    (cases_eq x b)

map_some : (o : Option ℕ) (i : ℕ) → option_map (λ k. k + 1) o ≡ Some i → (j : ℕ) × (o ≡ Some j) × (i ≡ j + 1)
map_some None i e = cc
map_some (Some j) i e = (j, refl, sym (same_Some (j + 1) i e))

-- and stands there
pub place_get : (l : List ℕ) (b i : ℕ) → place_in l b ≡ Some i → slice_get l i ≡ Some b
place_get [] b i e = cc
place_get (x ∷ l) b i e =
    ⊎_elim
    (λ (same : x ≡ b).
    let first : 0 ≡ i = same_Some 0 i (sym (place_here x l b same) ∙ e) in
    subst (λ k. slice_get (x ∷ l) k ≡ Some b) first (ap Some same))
    (λ (n : x ≡ b → ⊥).
    let r = map_some (place_in l b) i (sym (place_past x l b n) ∙ e) in
    let rest = place_get l b r.0 r.1 in
    let after : i ≡ suc r.0 = r.2 ∙ add-one r.0 in
    subst (λ k. slice_get (x ∷ l) k ≡ Some b) (sym after) rest)
    (cases_eq x b)

get_in : (l : List ℕ) (i b : ℕ) → slice_get l i ≡ Some b → Contains l b
get_in [] i b e = cc
get_in (x ∷ l) zero b e = here_is x l b (same_Some x b e)
get_in (x ∷ l) (suc i) b e = there x l b (get_in l i b e)

pub placed_in : (l : List ℕ) (b i : ℕ) → place_in l b ≡ Some i → Contains l b
placed_in l b i e = get_in l i b (place_get l b i e)

-- b was left before a, so that it has the later place
pub record GoesUp (l : List ℕ) (a b : ℕ) : Type 0 where
  pub i : ℕ
  pub j : ℕ
  pub first : place_in l a ≡ Some i
  pub second : place_in l b ≡ Some j
  pub up : i < j

one_more : (x : ℕ) (l : List ℕ) (a b : ℕ) → (x ≡ a → ⊥) → (x ≡ b → ⊥) → GoesUp l a b → GoesUp (x ∷ l) a b
one_more x l a b m n r = let up = r.up in record { i = r.i + 1; j = r.j + 1; first = place_next x l a r.i m r.first; second = place_next x l b r.j n r.second; up = omega arith }

-- each edge of a block that was left goes up, to a marked block, or back
left_edge : (g : List Run) (from : List ℕ) (A : List Bool) (l : List ℕ) → AreLeft g from A l → (a b : ℕ) → Contains l a → HasEdge g a b → (marked A b ≡ true) ⊎ (GoesUp l a b ⊎ IsBack g from A a b)
left_edge g from A [] left a b h e = absurd (in_none a h)
left_edge g from A (x ∷ l) left a b h e =
    ⊎_elim
    (λ (same : x ≡ a).
    ⊎_elim (λ (m : marked A b ≡ true). inl m)
    (λ (r : Contains l b ⊎ IsBack g from A x b). inr (⊎_elim
    (λ (i : Contains l b).
    let p = place_some l b i in
    let ne : x ≡ b → ⊥ = λ s. left.0 (subst (λ k. Contains l k) (sym s) i) in
    inl (record { i = 0; j = p.0 + 1; first = place_here x l a same; second = place_next x l b p.0 ne p.1; up = omega arith }))
    (λ (k : IsBack g from A x b). inr (subst (λ y. IsBack g from A y b) same k))
    r))
    (left.1 b (subst (λ y. HasEdge g y b) (sym same) e)))
    (λ (n : x ≡ a → ⊥).
    let inside : Contains l a = ⊎_elim (λ (s : x ≡ a). absurd (n s)) (λ (i : Contains l a). i) (in_cons x l a h) in
    ⊎_elim (λ (m : marked A b ≡ true). inl m)
    (λ (r : GoesUp l a b ⊎ IsBack g from A a b). inr (⊎_elim
    (λ (k : GoesUp l a b). inl (one_more x l a b n (λ s. left.0 (subst (λ y. Contains l y) (sym s) (placed_in l b k.j k.second))) k))
    (λ (k : IsBack g from A a b). inr k)
    r))
    (left_edge g from A l left.2 a b inside e))
    (cases_eq x a)

-- a path that passes no block twice and has b on it
pub record IsOverPath (g : List Run) (a b : ℕ) : Type 0 where
  pub way : List ℕ
  pub path : IsPath g a way
  pub apart : IsDistinct nat_eq (a ∷ way)
  pub on : Contains (a ∷ way) b

pub edge_order : (g : List Run) → IsClosed g → (a b : ℕ) → IsReached g a → HasEdge g a b → GoesUp (walked g).left a b ⊎ IsOverPath g a b
edge_order g closed a b reached e =
    ⊎_elim (λ (m : marked (replicate (length g) false) b ≡ true). absurd (both_ways (marked (replicate (length g) false) b) (none_marked (length g) b) m))
    (λ (r : GoesUp (walked g).left a b ⊎ IsBack g (0 ∷ []) (replicate (length g) false) a b). ⊎_elim
    (λ (k : GoesUp (walked g).left a b). inl k)
    (λ (k : IsBack g (0 ∷ []) (replicate (length g) false) a b). inr (record { way = k.way; path = leads_path g (replicate (length g) false) k.way a k.comes.1; apart = distinct (a ∷ k.way) k.apart; on = k.on }))
    r)
    (left_edge g (0 ∷ []) (replicate (length g) false) (walked g).left (entry_done g closed).left a b ((reached_left g closed a).1 reached) e)

-- a reached block stands at its place
pub placed : (g : List Run) → IsClosed g → (b : ℕ) → IsReached g b → slice_get (walked g).left (place_of g b) ≡ Some b
placed g closed b r =
    let p = place_some (walked g).left b ((reached_left g closed b).1 r) in
    subst (λ k. slice_get (walked g).left k ≡ Some b) (sym (ap (λ o. unwrap_or o 0) p.1)) (place_get (walked g).left b p.0 p.1)

-- exactly the reached blocks have a place
pub order_reached : (g : List Run) → IsClosed g → (b : ℕ) → (is_some (order_of g b) ≡ true) ↔ IsReached g b
order_reached g closed b = (
  λ t. let p = some_of (order_of g b) t in (reached_left g closed b).0 (placed_in (walked g).left b p.0 p.1),
  λ r. let p = place_some (walked g).left b ((reached_left g closed b).1 r) in ap is_some p.1,
)
  where
    some_of : (o : Option ℕ) → is_some o ≡ true → (i : ℕ) × (o ≡ Some i)
    some_of None t = absurd (both_ways false refl t)
    some_of (Some i) t = (i, refl)

pub order_cases : (g : List Run) → IsClosed g → (b : ℕ) (o : Option ℕ) → o ≡ order_of g b → MatchOption o (IsReached g b → ⊥) (λ _. IsReached g b)
order_cases g closed b None e = λ r. both_ways false refl (ap is_some e ∙ (order_reached g closed b).1 r)
order_cases g closed b (Some k) e = (order_reached g closed b).0 (sym (ap is_some e))

before_place : (g : List Run) (a b : ℕ) → GoesUp (walked g).left a b → place_of g a < place_of g b
before_place g a b k =
    let p : place_of g a ≡ k.i = ap (λ o. unwrap_or o 0) k.first in
    let q : place_of g b ≡ k.j = ap (λ o. unwrap_or o 0) k.second in
    let up = k.up in
    omega arith

-- each edge of a reducible graph is fine, where its edges back lead over each path
pub fine_back : (g : List Run) → IsClosed g → (a b : ℕ) → IsReached g a → HasEdge g a b → (IsOverPath g a b → IsOnEveryPath g b a) → IsFine g a b
fine_back g closed a b reached e over =
    ⊎_elim (λ (k : GoesUp (walked g).left a b). inl (before_place g a b k)) (λ (k : IsOverPath g a b). inr (over k)) (edge_order g closed a b reached e)

-- where each edge is fine there is an order
pub fine_order : (g : List Run) → IsClosed g → ((a b : ℕ) → IsReached g a → HasEdge g a b → IsFine g a b) → IsOrder g (place_of g)
fine_order g closed fine = record {
  bound = length (walked g).left;
  low = λ b r.
      let p = place_some (walked g).left b ((reached_left g closed b).1 r) in
      let within = slice_get_within (walked g).left p.0 b (place_get (walked g).left b p.0 p.1) in
      let is : place_of g b ≡ p.0 = ap (λ o. unwrap_or o 0) p.1 in
      omega arith;
  edge = fine;
}

-- so many places later
abbrev pub later : ℕ → Option ℕ → Option ℕ
later n None = None
later n (Some k) = Some (k + n)

left_apart : (g : List Run) (from : List ℕ) (A : List Bool) (l : List ℕ) → AreLeft g from A l → AreApart l
left_apart g from A [] left = tt
left_apart g from A (x ∷ l) left = (left.0, left_apart g from A l left.2)

-- no block is left twice
pub left_once : (g : List Run) → IsClosed g → IsDistinct nat_eq (walked g).left
left_once g closed = distinct (walked g).left (left_apart g (0 ∷ []) (replicate (length g) false) (walked g).left (entry_done g closed).left)

-- where no block stands twice, each stands at its place
apart_place : (l : List ℕ) → AreApart l → (i b : ℕ) → slice_get l i ≡ Some b → place_in l b ≡ Some i
apart_place [] a i b e = cc
apart_place (x ∷ l) a zero b e = place_here x l b (same_Some x b e)
apart_place (x ∷ l) a (suc i) b e =
    let apart : x ≡ b → ⊥ = λ s. a.0 (subst (λ k. Contains l k) (sym s) (get_in l i b e)) in
    place_next x l b i apart (apart_place l a.1 i b e) ∙ ap Some (add-one i)

-- the blocks that were left, the first one first, have falling places
pub left_place : (g : List Run) → IsClosed g → (left : List ℕ) → reverse left ≡ (walked g).left → (k : ℕ) → k < length left →
    IsReached g (get_or left k 0) × (place_of g (get_or left k 0) + (k + 1) ≡ length left)
left_place g closed left all k lt =
    let l = (walked g).left in
    let size = length-reverse left in
    let same : length l ≡ length left = ap length (sym all) ∙ size in
    let i = length left - 1 - k in
    let read : get_or left k 0 ≡ get_or l i 0 =
    ap (λ m. get_or m k 0) (sym (reverse-reverse left)) ∙ get_or-reverse (reverse left) k 0 (omega arith) ∙ ap (λ n. get_or (reverse left) (n - 1 - k) 0) size ∙ ap (λ m. get_or m i 0) all in
    let b = get_or left k 0 in
    let stands : slice_get l i ≡ Some b = slice_get-get_or l i 0 (omega arith) ∙ ap Some (sym read) in
    let place : place_of g b ≡ i = ap (λ o. unwrap_or o 0) (apart_place l (left_apart g (0 ∷ []) (replicate (length g) false) l (entry_done g closed).left) i b stands) in
    ((reached_left g closed b).0 (get_in l i b stands), omega arith)

pub place_below : (g : List Run) (b place : ℕ) → order_of g b ≡ Some place → place < length (walked g).left
place_below g b place e = slice_get_within (walked g).left place b (place_get (walked g).left b place e)

pub place_one : (g : List Run) (a b place : ℕ) → order_of g a ≡ Some place → order_of g b ≡ Some place → a ≡ b
place_one g a b place e f = same_Some a b (sym (place_get (walked g).left a place e) ∙ place_get (walked g).left b place f)

-- an edge between placed blocks goes up, or back
pub placed_edge : (g : List Run) → IsClosed g → (a b i j : ℕ) → HasEdge g a b → order_of g a ≡ Some i → order_of g b ≡ Some j → (i < j) ⊎ ((p : List ℕ) × IsPath g a p × IsDistinct nat_eq (a ∷ p) × Contains (a ∷ p) b)
placed_edge g closed a b i j h e f =
    ⊎_elim
    (λ (k : GoesUp (walked g).left a b).
    let first : k.i ≡ i = same_Some k.i i (sym k.first ∙ e) in
    let second : k.j ≡ j = same_Some k.j j (sym k.second ∙ f) in
    let up = k.up in
    inl (omega arith))
    (λ (k : IsOverPath g a b). inr (k.way, k.path, k.apart, k.on))
    (edge_order g closed a b ((order_reached g closed a).0 (ap is_some e)) h)
