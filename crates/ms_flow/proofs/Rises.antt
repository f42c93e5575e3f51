-- Walks on which each edge goes up in the order, and the cycles that they tell.
use Rattle.std.proofs.Common.{◌≡◌, ℕ, ◌<◌, ◌≤◌, ◌⊎◌, List, [], ◌∷◌, ◌++◌, refl, sym, ap, ◌∙◌, subst, inl, inr, ⊎_elim, arith}
use Rattle.std.specs.Prelude.{Contains}
use Rattle.std.proofs.lemmas.List.Elements.{Contains-append_cases}
use Rattle.ms_paths.specs.Flow.{Block as Run, HasEdge, IsPath, IsReached, IsWalk, IsOnEveryPath, IsOrder}
use Rattle.ms_flow.specs.Flow.{place_of, IsOnCycle}
use Rattle.ms_flow.specs.Loops.{IsRise, FallsTo, FallsOver}
use Rattle.ms_flow.proofs.Members.{here, there, in_none, in_cons}

-- a reached block falls to itself or to one before it in the order
abbrev pub FallsBack : List Run → ℕ → Type 0
FallsBack g b = IsReached g b × ((h : ℕ) × FallsTo g b h × (place_of g h ≤ place_of g b))

pub record RisesTo (g : List Run) (a b : ℕ) : Type 0 where
  pub way : List ℕ
  pub rise : IsRise g a b way

-- a rise leads to the block itself, or to a later place
rise_up : (g : List Run) (a b : ℕ) (w : List ℕ) → IsRise g a b w → (a ≡ b) ⊎ (place_of g a < place_of g b)
rise_up g a b [] r = inl r
rise_up g a b (c ∷ w) r =
    let up = r.1 in
    ⊎_elim (λ (e : a ≡ c). inr (subst (λ x. place_of g x < place_of g b) (sym e) up)) (λ (lt : place_of g a < place_of g c). inr (omega arith)) (rise_up g a c w r.2)

rise_le : (g : List Run) (a b : ℕ) (w : List ℕ) → IsRise g a b w → place_of g a ≤ place_of g b
rise_le g a b w r =
    ⊎_elim (λ (e : a ≡ b). let same : place_of g a ≡ place_of g b = ap (place_of g) e in omega arith) (λ (lt : place_of g a < place_of g b). omega arith) (rise_up g a b w r)

-- the two parts of a rise at one of its blocks
rise_on : (g : List Run) (a b : ℕ) (w : List ℕ) → IsRise g a b w → (x : ℕ) → Contains (b ∷ w) x → RisesTo g a x × RisesTo g x b
rise_on g a b [] r x i =
    ⊎_elim (λ (e : b ≡ x). (record { way = []; rise = r ∙ e }, record { way = []; rise = sym e })) (λ (n : Contains [] x). absurd (in_none x n)) (in_cons b [] x i)
rise_on g a b (c ∷ w) r x i =
    ⊎_elim
    (λ (e : b ≡ x). (record { way = c ∷ w; rise = subst (λ y. IsRise g a y (c ∷ w)) e r }, record { way = []; rise = sym e }))
    (λ (j : Contains (c ∷ w) x). let s = rise_on g a c w r.2 x j in (s.0, record { way = c ∷ s.1.way; rise = (r.0, r.1, s.1.rise) }))
    (in_cons b (c ∷ w) x i)

-- an edge that goes up, and a rise behind it
rise_before : (g : List Run) (a c b : ℕ) (w : List ℕ) → HasEdge g a c → place_of g a < place_of g c → IsRise g c b w → RisesTo g a b
rise_before g a c b [] e lt r = record { way = a ∷ []; rise = (subst (HasEdge g a) r e, subst (λ x. place_of g a < place_of g x) r lt, refl) }
rise_before g a c b (d ∷ w) e lt r = let s = rise_before g a c d w e lt r.2 in record { way = d ∷ s.way; rise = (r.0, r.1, s.rise) }

-- the first edge of a rise
rise_first : (g : List Run) (a b : ℕ) (w : List ℕ) → IsRise g a b w → (a ≡ b) ⊎ ((c : ℕ) × HasEdge g a c × (place_of g a < place_of g c) × RisesTo g c b)
rise_first g a b [] r = inl r
rise_first g a b (d ∷ w) r =
    ⊎_elim
    (λ (e : a ≡ d). inr (b, subst (λ x. HasEdge g x b) (sym e) r.0, subst (λ x. place_of g x < place_of g b) (sym e) r.1, record { way = []; rise = refl }))
    (λ (f : (c : ℕ) × HasEdge g a c × (place_of g a < place_of g c) × RisesTo g c d). inr (f.0, f.1, f.2, record { way = d ∷ f.3.way; rise = (r.0, r.1, f.3.rise) }))
    (rise_first g a d w r.2)

-- a block falls to another over one of its edges
pub falls_first : (g : List Run) (b h : ℕ) → FallsTo g b h → (c : ℕ) × HasEdge g b c × FallsOver g b c h
falls_first g b h t =
    ⊎_elim
    (λ (e : b ≡ t.top). (h, subst (λ x. HasEdge g x h) (sym e) t.edge, inl (refl, subst (λ x. place_of g h ≤ place_of g x) (sym e) t.falls)))
    (λ (f : (c : ℕ) × HasEdge g b c × (place_of g b < place_of g c) × RisesTo g c t.top).
    (f.0, f.1, inr (f.2, record { top = t.top; way = f.3.way; rise = f.3.rise; edge = t.edge; falls = t.falls })))
    (rise_first g b t.top t.way t.rise)

pub falls_over : (g : List Run) (b c h : ℕ) → HasEdge g b c → FallsOver g b c h → FallsTo g b h
falls_over g b c h e over =
    ⊎_elim
    (λ (f : (c ≡ h) × (place_of g h ≤ place_of g b)). record { top = b; way = []; rise = refl; edge = subst (HasEdge g b) f.0 e; falls = f.1 })
    (λ (f : (place_of g b < place_of g c) × FallsTo g c h).
    let s = rise_before g b c f.1.top f.1.way e f.0 f.1.rise in
    record { top = f.1.top; way = s.way; rise = s.rise; edge = f.1.edge; falls = f.1.falls })
    over

rise_path : (g : List Run) (a b : ℕ) (w p : List ℕ) → IsRise g a b w → IsPath g a p → IsPath g b (w ++ p)
rise_path g a b [] p r h = subst (λ x. IsPath g x p) r h
rise_path g a b (c ∷ w) p r h = (r.0, rise_path g a c w p r.2 h)

entry_path : (g : List Run) (b : ℕ) (w : List ℕ) → IsRise g 0 b w → IsPath g b w
entry_path g b [] r = sym r
entry_path g b (c ∷ w) r = (r.0, entry_path g c w r.2)

rise_walk : (g : List Run) (a b : ℕ) (w : List ℕ) → IsRise g a b w → IsWalk g a b w
rise_walk g a b [] r = r
rise_walk g a b (c ∷ w) r = (r.0, rise_walk g a c w r.2)

walk_over : (g : List Run) (a b c : ℕ) (w v : List ℕ) → IsWalk g b c w → IsWalk g a b v → IsWalk g a c (w ++ v)
walk_over g a b c [] v h k = subst (λ x. IsWalk g a x v) h k
walk_over g a b c (d ∷ w) v h k = (h.0, walk_over g a b d w v h.1 k)

-- edges that go up lead to each block of a path
path_risen : (g : List Run) → IsOrder g (place_of g) → (b : ℕ) (p : List ℕ) → IsPath g b p → (x : ℕ) → Contains (b ∷ p) x → RisesTo g 0 x
path_risen g o b [] h x i = ⊎_elim (λ (e : b ≡ x). record { way = []; rise = sym h ∙ e }) (λ (n : Contains [] x). absurd (in_none x n)) (in_cons b [] x i)
path_risen g o b (a ∷ p) h x i =
    ⊎_elim
    (λ (e : b ≡ x). subst (RisesTo g 0) e (⊎_elim
    (λ (up : place_of g a < place_of g b). let r = path_risen g o a p h.1 a (here a p) in record { way = a ∷ r.way; rise = (h.0, up, r.rise) })
    (λ (over : IsOnEveryPath g b a). path_risen g o a p h.1 b (over p h.1))
    (o.edge a b (p, h.1) h.0)))
    (λ (j : Contains (a ∷ p) x). path_risen g o a p h.1 x j)
    (in_cons b (a ∷ p) x i)

reached_risen : (g : List Run) → IsOrder g (place_of g) → (b : ℕ) → IsReached g b → RisesTo g 0 b
reached_risen g o b r = path_risen g o b r.0 r.1 b (here b r.0)

-- An edge from a block c to which b rises goes up, or leads back to a block on each path to c: to one on the rise, or to one before b.
edge_rises : (g : List Run) → IsOrder g (place_of g) → (b : ℕ) → RisesTo g 0 b → (c x : ℕ) → RisesTo g b c → HasEdge g c x →
    RisesTo g b x ⊎ ((h : ℕ) × FallsTo g b h × (place_of g h ≤ place_of g b))
edge_rises g o b r c x s e =
    let path = rise_path g b c s.way r.way s.rise (entry_path g b r.way r.rise) in
    ⊎_elim
    (λ (up : place_of g c < place_of g x). inl (record { way = c ∷ s.way; rise = (e, up, s.rise) }))
    (λ (over : IsOnEveryPath g x c). ⊎_elim
    (λ (i : Contains (c ∷ s.way) x). inl (rise_on g b c s.way s.rise x i).0)
    (λ (i : Contains r.way x).
    let to = (rise_on g 0 b r.way r.rise x (there b r.way x i)).1 in
    let low = rise_le g x b to.way to.rise in
    let high = rise_le g b c s.way s.rise in
    inr (x, record { top = c; way = s.way; rise = s.rise; edge = e; falls = omega arith }, low))
    (Contains-append_cases (c ∷ s.way) r.way x (over (s.way ++ r.way) path)))
    (o.edge c x (s.way ++ r.way, path) e)

walk_rises : (g : List Run) → IsOrder g (place_of g) → (b : ℕ) → RisesTo g 0 b → (x : ℕ) (w : List ℕ) → IsWalk g b x w →
    RisesTo g b x ⊎ ((h : ℕ) × FallsTo g b h × (place_of g h ≤ place_of g b))
walk_rises g o b r x [] h = inl (record { way = []; rise = h })
walk_rises g o b r x (c ∷ w) h =
    ⊎_elim (λ (s : RisesTo g b c). edge_rises g o b r c x s h.0) (λ (t : (h : ℕ) × FallsTo g b h × (place_of g h ≤ place_of g b)). inr t) (walk_rises g o b r c w h.1)

-- on a walk that leads from b back to it there is such an edge
pub cycle_falls : (g : List Run) → IsOrder g (place_of g) → (b : ℕ) → IsOnCycle g b → FallsBack g b
cycle_falls g o b k =
    let c = k.1.0 in
    let w = k.1.1 in
    let walk = k.1.2 in (
      k.0,
      ⊎_elim
          (λ (s : RisesTo g b c). (b, record { top = c; way = s.way; rise = s.rise; edge = walk.0; falls = rise_le g b c s.way s.rise }, omega arith))
          (λ (t : (h : ℕ) × FallsTo g b h × (place_of g h ≤ place_of g b)). t)
          (walk_rises g o b (reached_risen g o b k.0) c w walk.1),
    )

-- a block to which b falls, and that is not behind b, rises to b
back_rises : (g : List Run) → IsOrder g (place_of g) → (b h : ℕ) → RisesTo g 0 b → FallsTo g b h → place_of g h ≤ place_of g b → RisesTo g h b
back_rises g o b h r t le =
    let path = rise_path g b t.top t.way r.way t.rise (entry_path g b r.way r.rise) in
    let falls = t.falls in
    ⊎_elim
    (λ (up : place_of g t.top < place_of g h). absurd (omega arith))
    (λ (over : IsOnEveryPath g h t.top). ⊎_elim
    (λ (i : Contains (t.top ∷ t.way) h).
    let s = (rise_on g b t.top t.way t.rise h i).0 in
    ⊎_elim (λ (e : b ≡ h). record { way = []; rise = sym e }) (λ (up : place_of g b < place_of g h). absurd (omega arith)) (rise_up g b h s.way s.rise))
    (λ (i : Contains r.way h). (rise_on g 0 b r.way r.rise h (there b r.way h i)).1)
    (Contains-append_cases (t.top ∷ t.way) r.way h (over (t.way ++ r.way) path)))
    (o.edge t.top h (t.way ++ r.way, path) t.edge)

-- a fall and a rise make a cycle
round : (g : List Run) (b h : ℕ) (w : List ℕ) → FallsTo g b h → IsRise g h b w → (c : ℕ) × (v : List ℕ) × IsWalk g b b (c ∷ v)
round g b h [] t r = (t.top, t.way, (subst (HasEdge g t.top) r t.edge, rise_walk g b t.top t.way t.rise))
round g b h (c ∷ w) t r = (c, w ++ t.top ∷ t.way, (r.0, walk_over g b h c w (t.top ∷ t.way) (rise_walk g h c w r.2) (t.edge, rise_walk g b t.top t.way t.rise)))

pub falls_cycle : (g : List Run) → IsOrder g (place_of g) → (b : ℕ) → FallsBack g b → IsOnCycle g b
falls_cycle g o b f =
    let s = back_rises g o b f.1.0 (reached_risen g o b f.0) f.1.1 f.1.2 in
    (f.0, round g b f.1.0 s.way f.1.1 s.rise)
