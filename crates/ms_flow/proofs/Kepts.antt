-- What is kept of lists of edges when one is cut.
use Rattle.std.proofs.Common.{◌≡◌, ◌<◌, ◌≤◌, ◌+◌, ℕ, zero, suc, Bool, true, false, eqb, List, [], ◌∷◌, ◌++◌, length, get_or, set, refl, sym, ap, ap₂, ◌∙◌, subst, ⊎_elim, arith}
use Rattle.std.specs.Prelude.{Contains, Some, slice_get}
use Rattle.std.proofs.lemmas.Bool.{cases_Bool, both_ways, eqb-true, eq-eqb, ne_eqb}
use Rattle.std.proofs.lemmas.Option.{same_Some, slice_get_within, get_or_from_slice_get, slice_get-get_or}
use Rattle.ms_paths.specs.Flow.{Block as Run, IsClosed}
use Rattle.ms_flow.specs.declared.sources.Source.{Source}
use Rattle.ms_flow.specs.Table.{next_of, run_to}
use Rattle.ms_flow.specs.Flow.{slots_to, edges_to, has_reached, sources_of}
use Rattle.ms_flow.specs.Cut.{AreBefore, cut_graph, edge_before, kept_slot}
use Rattle.ms_flow.specs.Kept.{stays, edge_behind, kept, kept_places}
use Rattle.ms_flow.proofs.Edges.{edges_from}
use Rattle.ms_flow.proofs.Paths.{reached_told}
use Rattle.ms_flow.proofs.Listed.{edges_hold}
use Rattle.ms_flow.proofs.Cuts.{cut_blocks, cut_closed, cut_reached}

abbrev edge : ℕ → ℕ → Source
edge a k = record { from = a; slot = k }

stays_lost : (R : ℕ → Bool) (c slot : ℕ) (e : Source) → R e.from ≡ false → stays R c slot e ≡ false
stays_lost R c slot e h = rw h refl

stays_other : (R : ℕ → Bool) (c slot : ℕ) (e : Source) → R e.from ≡ true → eqb e.from c ≡ false → stays R c slot e ≡ true
stays_other R c slot e h n = rw (h, n) refl

behind_other : (c : ℕ) (e : Source) → eqb e.from c ≡ false → edge_behind c e ≡ e
behind_other c e n = rw n refl

kept_more : (R : ℕ → Bool) (c slot : ℕ) (e : Source) (es : List Source) → stays R c slot e ≡ true → kept R c slot (e ∷ es) ≡ edge_behind c e ∷ kept R c slot es
kept_more R c slot e es y = rw y refl

kept_lost : (R : ℕ → Bool) (c slot : ℕ) (e : Source) (es : List Source) → stays R c slot e ≡ false → kept R c slot (e ∷ es) ≡ kept R c slot es
kept_lost R c slot e es n = rw n refl

pub kept_append : (R : ℕ → Bool) (c slot : ℕ) (xs ys : List Source) → kept R c slot (xs ++ ys) ≡ kept R c slot xs ++ kept R c slot ys
kept_append R c slot [] ys = refl
kept_append R c slot (x ∷ xs) ys =
    let r = kept_append R c slot xs ys in
    ⊎_elim (λ (y : stays R c slot x ≡ true). rw y (ap (λ (l : List Source). edge_behind c x ∷ l) r)) (λ (n : stays R c slot x ≡ false). rw n r) (cases_Bool (stays R c slot x))

-- ---- the lists of the cut graph

slots_lost : (R : ℕ → Bool) (c slot a b : ℕ) (ts : List ℕ) (j : ℕ) → R a ≡ false → kept R c slot (slots_to a b j ts) ≡ []
slots_lost R c slot a b [] j h = refl
slots_lost R c slot a b (t ∷ ts) j h =
    let r = slots_lost R c slot a b ts (j + 1) h in
    ⊎_elim (λ (y : eqb t b ≡ true). rw y (kept_lost R c slot (edge a j) (slots_to a b (j + 1) ts) (stays_lost R c slot (edge a j) h) ∙ r)) (λ (n : eqb t b ≡ false). rw n r) (cases_Bool (eqb t b))

slots_same : (R : ℕ → Bool) (c slot a b : ℕ) (ts : List ℕ) (j : ℕ) → R a ≡ true → eqb a c ≡ false → kept R c slot (slots_to a b j ts) ≡ slots_to a b j ts
slots_same R c slot a b [] j h n = refl
slots_same R c slot a b (t ∷ ts) j h n =
    let r = slots_same R c slot a b ts (j + 1) h n in
    ⊎_elim
    (λ (y : eqb t b ≡ true). rw y (kept_more R c slot (edge a j) (slots_to a b (j + 1) ts) (stays_other R c slot (edge a j) h n)
    ∙ ap₂ (λ (x : Source) (l : List Source). x ∷ l) (behind_other c (edge a j) n) r))
    (λ (m : eqb t b ≡ false). rw m r)
    (cases_Bool (eqb t b))

-- no more blocks are reached
abbrev Fewer : (ℕ → Bool) → (ℕ → Bool) → Type 0
Fewer R S = (x : ℕ) → R x ≡ true → S x ≡ true

from_lost : (R S : ℕ → Bool) (c slot a b : ℕ) (next : List ℕ) → R a ≡ false → kept R c slot (edges_from S b a next) ≡ []
from_lost R S c slot a b next h =
    ⊎_elim (λ (y : S a ≡ true). rw y (slots_lost R c slot a b next 0 h)) (λ (n : S a ≡ false). rw n refl) (cases_Bool (S a))

from_other : (R S : ℕ → Bool) (c slot a b : ℕ) (next : List ℕ) → Fewer R S → eqb a c ≡ false → kept R c slot (edges_from S b a next) ≡ edges_from R b a next
from_other R S c slot a b next fewer n =
    ⊎_elim
    (λ (y : R a ≡ true). let z = fewer a y in let r = slots_same R c slot a b next 0 y n in rw (z, y) r)
    (λ (m : R a ≡ false). let r = from_lost R S c slot a b next m in r ∙ (let e : [] ≡ edges_from R b a next = rw m refl in e))
    (cases_Bool (R a))

two_cut : (R : ℕ → Bool) (c slot b t u : ℕ) → R c ≡ true → slot < 2 → kept R c slot (slots_to c b 0 (t ∷ u ∷ [])) ≡ slots_to c b 0 (get_or (t ∷ u ∷ []) (kept_slot slot) 0 ∷ [])
two_cut R c zero b t u on lt =
    let self : eqb c c ≡ true = eq-eqb c c refl in
    ⊎_elim
    (λ (x : eqb t b ≡ true). ⊎_elim (λ (y : eqb u b ≡ true). rw (x, y, on, self) refl) (λ (n : eqb u b ≡ false). rw (x, n, on, self) refl) (cases_Bool (eqb u b)))
    (λ (m : eqb t b ≡ false). ⊎_elim (λ (y : eqb u b ≡ true). rw (m, y, on, self) refl) (λ (n : eqb u b ≡ false). rw (m, n) refl) (cases_Bool (eqb u b)))
    (cases_Bool (eqb t b))
two_cut R c (suc zero) b t u on lt =
    let self : eqb c c ≡ true = eq-eqb c c refl in
    ⊎_elim
    (λ (x : eqb t b ≡ true). ⊎_elim (λ (y : eqb u b ≡ true). rw (x, y, on, self) refl) (λ (n : eqb u b ≡ false). rw (x, n, on, self) refl) (cases_Bool (eqb u b)))
    (λ (m : eqb t b ≡ false). ⊎_elim (λ (y : eqb u b ≡ true). rw (m, y, on, self) refl) (λ (n : eqb u b ≡ false). rw (m, n) refl) (cases_Bool (eqb u b)))
    (cases_Bool (eqb t b))
two_cut R c (suc (suc n)) b t u on lt = absurd (omega arith)

from_cut : (R S : ℕ → Bool) (c slot b : ℕ) (next : List ℕ) → Fewer R S → length next ≡ 2 → slot < 2 → kept R c slot (edges_from S b c next) ≡ edges_from R b c (get_or next (kept_slot slot) 0 ∷ [])
from_cut R S c slot b [] fewer two lt = absurd (omega (arith, two))
from_cut R S c slot b (t ∷ []) fewer two lt = absurd (omega (arith, two))
from_cut R S c slot b (t ∷ u ∷ v ∷ next) fewer two lt = absurd (omega (arith, two))
from_cut R S c slot b (t ∷ u ∷ []) fewer two lt =
    let to = get_or (t ∷ u ∷ []) (kept_slot slot) 0 ∷ [] in
    ⊎_elim
    (λ (y : R c ≡ true).
    let old : edges_from S b c (t ∷ u ∷ []) ≡ slots_to c b 0 (t ∷ u ∷ []) = let z = fewer c y in rw z refl in
    let new : slots_to c b 0 to ≡ edges_from R b c to = rw y refl in
    ap (kept R c slot) old ∙ two_cut R c slot b t u y lt ∙ new)
    (λ (m : R c ≡ false). let r = from_lost R S c slot c b (t ∷ u ∷ []) m in r ∙ (let e : [] ≡ edges_from R b c to = rw m refl in e))
    (cases_Bool (R c))

edges_behind : (R S : ℕ → Bool) (c slot b : ℕ) (g : List Run) (a : ℕ) → Fewer R S → c < a → kept R c slot (edges_to S b a g) ≡ edges_to R b a g
edges_behind R S c slot b [] a fewer lt = refl
edges_behind R S c slot b (x ∷ g) a fewer lt =
    let n : eqb a c ≡ false = ne_eqb a c (λ e. omega (arith, e, lt)) in
    kept_append R c slot (edges_from S b a x.next) (edges_to S b (a + 1) g)
    ∙ ap₂ (λ (k l : List Source). k ++ l) (from_other R S c slot a b x.next fewer n) (edges_behind R S c slot b g (a + 1) fewer (omega arith))

edges_kept : (R S : ℕ → Bool) (c slot b : ℕ) (g : List Run) (a k : ℕ) → Fewer R S → slot < 2 → c ≡ a + k → length (next_of g k) ≡ 2 →
    kept R c slot (edges_to S b a g) ≡ edges_to R b a (set g k (run_to (get_or (next_of g k) (kept_slot slot) 0 ∷ [])))
edges_kept R S c slot b [] a k fewer lt at two = absurd (omega (arith, two))
edges_kept R S c slot b (x ∷ g) a zero fewer lt at two =
    let same : a ≡ c = omega arith in
    let here : kept R c slot (edges_from S b a x.next) ≡ edges_from R b a (get_or x.next (kept_slot slot) 0 ∷ []) =
    subst (λ n. kept R c slot (edges_from S b n x.next) ≡ edges_from R b n (get_or x.next (kept_slot slot) 0 ∷ [])) (sym same) (from_cut R S c slot b x.next fewer two lt) in
    kept_append R c slot (edges_from S b a x.next) (edges_to S b (a + 1) g)
    ∙ ap₂ (λ (k l : List Source). k ++ l) here (edges_behind R S c slot b g (a + 1) fewer (omega arith))
edges_kept R S c slot b (x ∷ g) a (suc k) fewer lt at two =
    let n : eqb a c ≡ false = ne_eqb a c (λ e. omega (arith, e, at)) in
    kept_append R c slot (edges_from S b a x.next) (edges_to S b (a + 1) g)
    ∙ ap₂ (λ (k l : List Source). k ++ l) (from_other R S c slot a b x.next fewer n) (edges_kept R S c slot b g (a + 1) k fewer lt (omega arith) two)

-- The edges to a block behind the cut are what is kept of those before.
pub sources_kept : (g : List Run) (c slot b : ℕ) → IsClosed g → length (next_of g c) ≡ 2 → slot < 2 → kept (has_reached (cut_graph g c slot)) c slot (sources_of g b) ≡ sources_of (cut_graph g c slot) b
sources_kept g c slot b closed two lt =
    edges_kept (has_reached (cut_graph g c slot)) (has_reached g) c slot b g 0 c
    (λ x h. (reached_told g closed x).1 (cut_reached g c slot x two ((reached_told (cut_graph g c slot) (cut_closed g c slot two closed) x).0 h)))
    lt (omega arith) two

-- ---- the places of what is kept

pub places_length : (R : ℕ → Bool) (c slot k : ℕ) (xs : List Source) → length (kept_places R c slot k xs) ≡ length (kept R c slot xs)
places_length R c slot k [] = refl
places_length R c slot k (x ∷ xs) =
    let r = places_length R c slot (k + 1) xs in
    ⊎_elim (λ (y : stays R c slot x ≡ true). rw y (ap suc r)) (λ (n : stays R c slot x ≡ false). rw n r) (cases_Bool (stays R c slot x))

pub kept_few : (R : ℕ → Bool) (c slot : ℕ) (xs : List Source) → length (kept R c slot xs) ≤ length xs
kept_few R c slot [] = omega arith
kept_few R c slot (x ∷ xs) =
    let r = kept_few R c slot xs in
    ⊎_elim (λ (y : stays R c slot x ≡ true). rw y (omega arith)) (λ (n : stays R c slot x ≡ false). rw n (omega arith)) (cases_Bool (stays R c slot x))

pub places_append : (R : ℕ → Bool) (c slot k m : ℕ) (xs ys : List Source) → m ≡ k + length xs → kept_places R c slot k (xs ++ ys) ≡ kept_places R c slot k xs ++ kept_places R c slot m ys
places_append R c slot k m [] ys e =
    let same : k ≡ m = omega (arith, e) in
    ap (λ n. kept_places R c slot n ys) same
places_append R c slot k m (x ∷ xs) ys e =
    let r = places_append R c slot (k + 1) m xs ys (omega (arith, e)) in
    ⊎_elim (λ (y : stays R c slot x ≡ true). rw y (ap (λ (l : List ℕ). k ∷ l) r)) (λ (n : stays R c slot x ≡ false). rw n r) (cases_Bool (stays R c slot x))

-- an edge stands no later than before
places_far : (R : ℕ → Bool) (c slot k : ℕ) (xs : List Source) (j : ℕ) → j < length (kept R c slot xs) → k + j ≤ get_or (kept_places R c slot k xs) j 0
places_far R c slot k [] j lt = absurd (omega arith)
places_far R c slot k (x ∷ xs) j lt =
    ⊎_elim
    (λ (y : stays R c slot x ≡ true). let lt' : j < suc (length (kept R c slot xs)) = rw y at lt in rw y (at (λ i h. places_far R c slot (k + 1) xs i h) j lt'))
    (λ (n : stays R c slot x ≡ false). let lt' : j < length (kept R c slot xs) = rw n at lt in let r = places_far R c slot (k + 1) xs j lt' in rw n (omega (arith, r)))
    (cases_Bool (stays R c slot x))
  where
    at : ((i : ℕ) → i < length (kept R c slot xs) → k + 1 + i ≤ get_or (kept_places R c slot (k + 1) xs) i 0) → (i : ℕ) → i < suc (length (kept R c slot xs)) → k + i ≤ get_or (k ∷ kept_places R c slot (k + 1) xs) i 0
    at far zero h = omega arith
    at far (suc i) h = let r = far i (omega arith) in omega (arith, r)

places_rise : (R : ℕ → Bool) (c slot k : ℕ) (xs : List Source) (i j : ℕ) → i < j → j < length (kept R c slot xs) → get_or (kept_places R c slot k xs) i 0 < get_or (kept_places R c slot k xs) j 0
places_rise R c slot k [] i j up lt = absurd (omega arith)
places_rise R c slot k (x ∷ xs) i j up lt =
    ⊎_elim
    (λ (y : stays R c slot x ≡ true). let lt' : j < suc (length (kept R c slot xs)) = rw y at lt in rw y (at (λ i j u h. places_rise R c slot (k + 1) xs i j u h) i j up lt'))
    (λ (n : stays R c slot x ≡ false). let lt' : j < length (kept R c slot xs) = rw n at lt in rw n (places_rise R c slot (k + 1) xs i j up lt'))
    (cases_Bool (stays R c slot x))
  where
    at : ((i j : ℕ) → i < j → j < length (kept R c slot xs) → get_or (kept_places R c slot (k + 1) xs) i 0 < get_or (kept_places R c slot (k + 1) xs) j 0) → (i j : ℕ) → i < j → j < suc (length (kept R c slot xs)) → get_or (k ∷ kept_places R c slot (k + 1) xs) i 0 < get_or (k ∷ kept_places R c slot (k + 1) xs) j 0
    at rise i zero up h = absurd (omega arith)
    at rise zero (suc j) up h = let r = places_far R c slot (k + 1) xs j (omega arith) in omega (arith, r)
    at rise (suc i) (suc j) up h = rise i j (omega arith) (omega arith)

-- a kept edge of c was the one at the other slot
edge_back : (R : ℕ → Bool) (c slot : ℕ) (x : Source) → slot < 2 → (x.from ≡ c → x.slot < 2) → stays R c slot x ≡ true → edge_before c slot (edge_behind c x) ≡ x
edge_back R c slot x lt few on =
    ⊎_elim
    (λ (y : eqb x.from c ≡ true).
    let from : x.from ≡ c = eqb-true x.from c y in
    let self : eqb c c ≡ true = eq-eqb c c refl in
    let other : eqb x.slot slot ≡ false = ⊎_elim
    (λ (z : eqb x.slot slot ≡ true). absurd (both_ways (stays R c slot x) (lost y z) on))
    (λ (n : eqb x.slot slot ≡ false). n)
    (cases_Bool (eqb x.slot slot)) in
    let there : edge_before c slot (edge_behind c x) ≡ edge c (kept_slot slot) = rw (y, self) refl in
    there ∙ ap₂ edge (sym from) (other_slot slot x.slot lt (few from) other))
    (λ (n : eqb x.from c ≡ false). rw (n, n) refl)
    (cases_Bool (eqb x.from c))
  where
    lost : eqb x.from c ≡ true → eqb x.slot slot ≡ true → stays R c slot x ≡ false
    lost y z = ⊎_elim (λ (r : R x.from ≡ true). rw (r, y, z) refl) (λ (r : R x.from ≡ false). rw r refl) (cases_Bool (R x.from))

    other_slot : (s t : ℕ) → s < 2 → t < 2 → eqb t s ≡ false → kept_slot s ≡ t
    other_slot zero zero a b e = absurd (both_ways true e refl)
    other_slot zero (suc zero) a b e = refl
    other_slot (suc zero) zero a b e = refl
    other_slot (suc zero) (suc zero) a b e = absurd (both_ways true e refl)
    other_slot (suc (suc s)) t a b e = absurd (omega arith)
    other_slot s (suc (suc t)) a b e = absurd (omega arith)

-- the edge that is kept at a place stood at another before
record WasAt (R : ℕ → Bool) (c slot k : ℕ) (xs : List Source) (j : ℕ) (e : Source) : Type 0 where
  i : ℕ
  place : get_or (kept_places R c slot k xs) j 0 ≡ k + i
  stood : slice_get xs i ≡ Some (edge_before c slot e)

was_at : (R : ℕ → Bool) (c slot k : ℕ) (xs : List Source) (j : ℕ) (e : Source) → slot < 2 → ((d : Source) → Contains xs d → d.from ≡ c → d.slot < 2) → slice_get (kept R c slot xs) j ≡ Some e → WasAt R c slot k xs j e
was_at R c slot k [] j e lt few h = cc
was_at R c slot k (x ∷ xs) j e lt few h =
    ⊎_elim
    (λ (y : stays R c slot x ≡ true).
    let h' : slice_get (edge_behind c x ∷ kept R c slot xs) j ≡ Some e = rw y at h in
    let all : kept_places R c slot k (x ∷ xs) ≡ k ∷ kept_places R c slot (k + 1) xs = rw y refl in
    at (λ n i. was_at R c slot (k + 1) xs n e lt rest i) y all j h')
    (λ (n : stays R c slot x ≡ false).
    let h' : slice_get (kept R c slot xs) j ≡ Some e = rw n at h in
    let all : kept_places R c slot k (x ∷ xs) ≡ kept_places R c slot (k + 1) xs = rw n refl in
    later j all (was_at R c slot (k + 1) xs j e lt rest h'))
    (cases_Bool (stays R c slot x))
  where
    rest : (d : Source) → Contains xs d → d.from ≡ c → d.slot < 2
    rest d i f = few d (suc i.0, omega (arith, i.1), i.2) f

    later : (n : ℕ) → kept_places R c slot k (x ∷ xs) ≡ kept_places R c slot (k + 1) xs → WasAt R c slot (k + 1) xs n e → WasAt R c slot k (x ∷ xs) n e
    later n all r = record { i = suc r.i; place = ap (λ (l : List ℕ). get_or l n 0) all ∙ r.place ∙ (let e : k + 1 + r.i ≡ k + suc r.i = omega arith in e); stood = r.stood }

    at : ((n : ℕ) → slice_get (kept R c slot xs) n ≡ Some e → WasAt R c slot (k + 1) xs n e) → stays R c slot x ≡ true → kept_places R c slot k (x ∷ xs) ≡ k ∷ kept_places R c slot (k + 1) xs → (n : ℕ) → slice_get (edge_behind c x ∷ kept R c slot xs) n ≡ Some e → WasAt R c slot k (x ∷ xs) n e
    at again y all zero h' =
        let same : edge_behind c x ≡ e = same_Some (edge_behind c x) e h' in
        let back = edge_back R c slot x lt (few x (0, omega arith, refl)) y in
        record { i = 0; place = ap (λ (l : List ℕ). get_or l 0 0) all ∙ (let e : k ≡ k + 0 = omega arith in e); stood = ap Some (sym back ∙ ap (edge_before c slot) same) }
    at again y all (suc n) h' =
        let r = again n h' in
        record { i = suc r.i; place = ap (λ (l : List ℕ). get_or l (suc n) 0) all ∙ r.place ∙ (let e : k + 1 + r.i ≡ k + suc r.i = omega arith in e); stood = r.stood }

slots_two : (g : List Run) (c b : ℕ) → length (next_of g c) ≡ 2 → (d : Source) → Contains (sources_of g b) d → d.from ≡ c → d.slot < 2
slots_two g c b two d i from =
    let r = edges_hold (has_reached g) b 0 g d i in
    let at : r.k ≡ c = let f = r.from in omega (arith, f, from) in
    let slot = subst (λ n. d.slot < length (next_of g n)) at r.slot in
    omega (arith, slot, two)

-- The places of what is kept are those of the edges before the cut.
pub before_told : (g : List Run) (c slot : ℕ) → IsClosed g → length (next_of g c) ≡ 2 → slot < 2 → (rows : List (List ℕ)) → length rows ≡ length g →
    ((b : ℕ) → b < length g → get_or rows b [] ≡ kept_places (has_reached (cut_graph g c slot)) c slot 0 (sources_of g b)) → AreBefore g c slot rows
before_told g c slot closed two lt rows sized are =
    let R = has_reached (cut_graph g c slot) in
    let blocks = cut_blocks g c slot in
    let all : (b : ℕ) → kept R c slot (sources_of g b) ≡ sources_of (cut_graph g c slot) b = λ b. sources_kept g c slot b closed two lt in
    let count : (b k : ℕ) → k < length (sources_of (cut_graph g c slot) b) → k < length (kept R c slot (sources_of g b)) = λ b k h. subst (λ (l : List Source). k < length l) (sym (all b)) h in
    record {
      rows_are = record {
        blocks = sized ∙ sym blocks;
        counts = λ b h. ap length (are b (omega (arith, h, blocks))) ∙ places_length R c slot 0 (sources_of g b) ∙ ap length (all b);
      };
      stood = λ b k e h is.
          let r = was_at R c slot 0 (sources_of g b) k e lt (slots_two g c b two) (subst (λ (l : List Source). slice_get l k ≡ Some e) (sym (all b)) is) in
          let place : get_or (get_or rows b []) k 0 ≡ r.i = ap (λ (l : List ℕ). get_or l k 0) (are b h) ∙ r.place ∙ (let z : 0 + r.i ≡ r.i = omega arith in z) in
          ap (slice_get (sources_of g b)) place ∙ r.stood;
      behind = λ b k h k_lt.
          let far = places_far R c slot 0 (sources_of g b) k (count b k k_lt) in
          let place : get_or (get_or rows b []) k 0 ≡ get_or (kept_places R c slot 0 (sources_of g b)) k 0 = ap (λ (l : List ℕ). get_or l k 0) (are b h) in
          omega (arith, far, place);
      rises = λ b j k h up k_lt.
          let rise = places_rise R c slot 0 (sources_of g b) j k up (count b k k_lt) in
          let one : get_or (get_or rows b []) j 0 ≡ get_or (kept_places R c slot 0 (sources_of g b)) j 0 = ap (λ (l : List ℕ). get_or l j 0) (are b h) in
          let two' : get_or (get_or rows b []) k 0 ≡ get_or (kept_places R c slot 0 (sources_of g b)) k 0 = ap (λ (l : List ℕ). get_or l k 0) (are b h) in
          omega (arith, rise, one, two');
    }

-- ---- of a law

pub cut_fewer : (g : List Run) (c slot b : ℕ) → IsClosed g → length (next_of g c) ≡ 2 → slot < 2 → length (sources_of (cut_graph g c slot) b) ≤ length (sources_of g b)
cut_fewer g c slot b closed two lt =
    let few = kept_few (has_reached (cut_graph g c slot)) c slot (sources_of g b) in
    let all = ap length (sources_kept g c slot b closed two lt) in
    omega (arith, few, all)

get_in : (l : List Source) (i : ℕ) (e : Source) → slice_get l i ≡ Some e → Contains l e
get_in l i e h = (i, slice_get_within l i e h, get_or_from_slice_get l i e e h)

in_get : (l : List Source) (e : Source) (h : Contains l e) → slice_get l h.0 ≡ Some e
in_get l e h = slice_get-get_or l h.0 e h.1 ∙ ap Some h.2

pub cut_stood : (g : List Run) (c slot b : ℕ) (e : Source) → IsClosed g → length (next_of g c) ≡ 2 → slot < 2 → Contains (sources_of (cut_graph g c slot) b) e → Contains (sources_of g b) (edge_before c slot e)
cut_stood g c slot b e closed two lt h =
    let R = has_reached (cut_graph g c slot) in
    let at : slice_get (kept R c slot (sources_of g b)) h.0 ≡ Some e = subst (λ (l : List Source). slice_get l h.0 ≡ Some e) (sym (sources_kept g c slot b closed two lt)) (in_get (sources_of (cut_graph g c slot) b) e h) in
    let r = was_at R c slot 0 (sources_of g b) h.0 e lt (slots_two g c b two) at in
    get_in (sources_of g b) r.i (edge_before c slot e) r.stood
