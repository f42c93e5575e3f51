-- Paths that pass a block, and paths that do not.
use Rattle.std.proofs.Common.{◌≡◌, ℕ, zero, suc, ◌<◌, ◌≤◌, ◌⊎◌, Bool, false, not, List, [], ◌∷◌, length, Option, Some, None, refl, sym, ap, subst, inl, inr, ⊎_elim, arith}
use Rattle.std.specs.Prelude.{Contains, IsSome, IsTrue, ◌↔◌}
use Rattle.std.proofs.lemmas.Bool.{cases_eq, cases_lt, both_ways, not-true, not_from_false, false_from_ne_true, false≢true}
use Rattle.ms_paths.specs.Flow.{Block as Run, block_at, HasEdge, IsPath, IsReached, IsClosed, IsOnEveryPath}
use Rattle.ms_flow.specs.Flow.{order_of}
use Rattle.ms_flow.proofs.Members.{here, here_is, there, in_none, in_cons, in_or_not}
use Rattle.ms_validity.specs.declared.spots.Spot.{Spot}
use Rattle.ms_validity.specs.Told.{IsPassed}

-- the graph without the edges that leave h
abbrev shut : ℕ → List Run → List Run
shut h [] = []
shut zero (x ∷ g) = record { events = x.events; next = [] } ∷ g
shut (suc h) (x ∷ g) = x ∷ shut h g

shut_other : (h a : ℕ) (g : List Run) → (a ≡ h → ⊥) → block_at (shut h g) a ≡ block_at g a
shut_other h a [] ne = refl
shut_other zero zero (x ∷ g) ne = absurd (ne refl)
shut_other zero (suc a) (x ∷ g) ne = refl
shut_other (suc h) zero (x ∷ g) ne = refl
shut_other (suc h) (suc a) (x ∷ g) ne = shut_other h a g (λ e. ne (ap suc e))

shut_at : (h : ℕ) (g : List Run) → (block_at (shut h g) h).next ≡ []
shut_at h [] = refl
shut_at zero (x ∷ g) = refl
shut_at (suc h) (x ∷ g) = shut_at h g

shut_length : (h : ℕ) (g : List Run) → length (shut h g) ≡ length g
shut_length h [] = refl
shut_length zero (x ∷ g) = refl
shut_length (suc h) (x ∷ g) = ap suc (shut_length h g)

shut_edge : (g : List Run) (h a b : ℕ) → HasEdge (shut h g) a b → HasEdge g a b × (a ≡ h → ⊥)
shut_edge g h a b edge =
    let apart : a ≡ h → ⊥ = λ e.
    let at : Contains (block_at (shut h g) h).next b = subst (λ x. HasEdge (shut h g) x b) e edge in
    in_none b (subst (λ (l : List ℕ). Contains l b) (shut_at h g) at) in
    (subst (λ (x : Run). Contains x.next b) (shut_other h a g apart) edge, apart)

edge_shut : (g : List Run) (h a b : ℕ) → HasEdge g a b → (a ≡ h → ⊥) → HasEdge (shut h g) a b
edge_shut g h a b edge apart = subst (λ (x : Run). Contains x.next b) (sym (shut_other h a g apart)) edge

path_opened : (g : List Run) (h : ℕ) (p : List ℕ) (b : ℕ) → IsPath (shut h g) b p → IsPath g b p × (Contains p h → ⊥)
path_opened g h [] b path = (path, in_none h)
path_opened g h (a ∷ p) b path =
    let rest = path_opened g h p a path.1 in
    let edge = shut_edge g h a b path.0 in
    ((edge.0, rest.0), λ c. ⊎_elim (λ (e : a ≡ h). edge.1 e) (λ (k : Contains p h). rest.1 k) (in_cons a p h c))

path_shut : (g : List Run) (h : ℕ) (p : List ℕ) (b : ℕ) → IsPath g b p → (Contains p h → ⊥) → IsPath (shut h g) b p
path_shut g h [] b path none = path
path_shut g h (a ∷ p) b path none =
    (edge_shut g h a b path.0 (λ e. none (here_is a p h e)), path_shut g h p a path.1 (λ k. none (there a p h k)))

shut_closed : (g : List Run) (h : ℕ) → IsClosed g → IsClosed (shut h g)
shut_closed g h closed =
    let len = shut_length h g in
    let entry = closed.has_entry in
    record {
      has_entry = omega arith;
      edges_in = λ a b edge. let within = closed.edges_in a b (shut_edge g h a b edge).0 in omega arith;
    }

-- that reaching can be told
abbrev pub ReachedTold : Type 0
ReachedTold = (g : List Run) → IsClosed g → (b : ℕ) → IsSome (order_of g b) ↔ IsReached g b

some_or_not : (o : Option ℕ) → IsSome o ⊎ (IsSome o → ⊥)
some_or_not None = inr (λ s. false≢true s)
some_or_not (Some n) = inl refl

-- a path to b passes h before, or there is one that does not
pub passes : ReachedTold → (g : List Run) → IsClosed g → (h b : ℕ)
    → ((p : List ℕ) × IsPath g b p × (Contains p h → ⊥)) ⊎ ((p : List ℕ) → IsPath g b p → Contains p h)
passes law g closed h b =
    let told = law (shut h g) (shut_closed g h closed) b in
    ⊎_elim
    (λ (s : IsSome (order_of (shut h g) b)).
    let way = told.0 s in
    let opened = path_opened g h way.0 b way.1 in
    inl (way.0, opened.0, opened.1))
    (λ (n : IsSome (order_of (shut h g) b) → ⊥).
    inr (λ p path. ⊎_elim (λ (c : Contains p h). c) (λ (none : Contains p h → ⊥). absurd (n (told.1 (p, path_shut g h p b path none)))) (in_or_not p h)))
    (some_or_not (order_of (shut h g) b))

-- a path to c does not pass b, or begins with one to b that comes there for the first time
shorten : (g : List Run) (p : List ℕ) (c b : ℕ) → IsPath g c p
    → (Contains (c ∷ p) b → ⊥) ⊎ ((q : List ℕ) × IsPath g b q × (Contains q b → ⊥))
shorten g [] c b path =
    ⊎_elim (λ (e : c ≡ b). inr ([], subst (λ x. IsPath g x []) e path, in_none b))
    (λ (n : c ≡ b → ⊥). inl (λ k. ⊎_elim (λ (e : c ≡ b). n e) (λ (m : Contains [] b). in_none b m) (in_cons c [] b k)))
    (cases_eq c b)
shorten g (a ∷ p) c b path =
    ⊎_elim
    (λ (none : Contains (a ∷ p) b → ⊥).
    ⊎_elim (λ (e : c ≡ b). inr (a ∷ p, subst (λ x. IsPath g x (a ∷ p)) e path, none))
    (λ (n : c ≡ b → ⊥). inl (λ k. ⊎_elim (λ (e : c ≡ b). n e) none (in_cons c (a ∷ p) b k)))
    (cases_eq c b))
    (λ (q : (q : List ℕ) × IsPath g b q × (Contains q b → ⊥)). inr q)
    (shorten g p a b path.1)

pub first_path : (g : List Run) (b : ℕ) → IsReached g b → (q : List ℕ) × IsPath g b q × (Contains q b → ⊥)
first_path g b way =
    ⊎_elim (λ (none : Contains (b ∷ way.0) b → ⊥). absurd (none (here b way.0)))
    (λ (q : (q : List ℕ) × IsPath g b q × (Contains q b → ⊥)). q)
    (shorten g way.0 b b way.1)

no_path_past : (g : List Run) (b : ℕ) (p : List ℕ) → IsClosed g → length g ≤ b → IsPath g b p → ⊥
no_path_past g b [] closed le path = let entry = closed.has_entry in omega arith
no_path_past g b (a ∷ p) closed le path = let within = closed.edges_in a b path.0 in omega arith

-- some path comes to a place without passing another one first
abbrev pub Without : List Run → Spot → Spot → Type 0
Without g first at = (p : List ℕ) × IsPath g at.block p × (IsPassed first at p → ⊥)

pub past_told : (g : List Run) (first at : Spot) → IsClosed g → length g ≤ at.block → IsTrue false ↔ Without g first at
past_told g first at closed le = (λ t. absurd (false≢true t), λ w. absurd (no_path_past g at.block w.0 closed le w.1))

pub same_block_told : (g : List Run) (first at : Spot) (t : Bool) → IsReached g at.block → first.block ≡ at.block → (IsTrue t ↔ (at.place ≤ first.place))
    → IsTrue t ↔ Without g first at
same_block_told g first at t way same told =
    let way' = first_path g at.block way in (
      λ k. let le = told.0 k in (
        way'.0,
        way'.1,
        λ passed. ⊎_elim
            (λ (e : (first.block ≡ at.block) × (first.place < at.place)). let lt = e.1 in omega arith)
            (λ (c : Contains way'.0 first.block). way'.2 (subst (λ x. Contains way'.0 x) same c)) passed,
      ),
      λ w. told.1 (⊎_elim (λ (lt : first.place < at.place). absurd (w.2 (inl (same, lt)))) (λ (le : at.place ≤ first.place). le) (cases_lt first.place at.place)),
    )

pub other_block_told : ReachedTold → (g : List Run) (first at : Spot) (t : Bool) → IsClosed g → (first.block ≡ at.block → ⊥)
    → (IsTrue t ↔ IsOnEveryPath g first.block at.block) → IsTrue (not t) ↔ Without g first at
other_block_told law g first at t closed ne told = (
  λ k. ⊎_elim
      (λ (w : (p : List ℕ) × IsPath g at.block p × (Contains p first.block → ⊥)).
      (w.0, w.1, λ passed. ⊎_elim (λ (e : (first.block ≡ at.block) × (first.place < at.place)). ne e.0) (λ (c : Contains w.0 first.block). w.2 c) passed))
      (λ (all : (p : List ℕ) → IsPath g at.block p → Contains p first.block).
      absurd (both_ways t (not-true t k) (told.1 (λ p path. there at.block p first.block (all p path)))))
      (passes law g closed first.block at.block),
  λ w. not_from_false t (false_from_ne_true t (λ k.
      ⊎_elim (λ (e : at.block ≡ first.block). ne (sym e)) (λ (c : Contains w.0 first.block). w.2 (inr c))
      (in_cons at.block w.0 first.block (told.0 k w.0 w.1)))),
)
