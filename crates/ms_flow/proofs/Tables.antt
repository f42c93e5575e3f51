-- Tables of targets as graphs.
use Rattle.std.proofs.Common.{◌≡◌, ℕ, zero, suc, ◌+◌, ◌<◌, ◌≤◌, List, [], ◌∷◌, ◌++◌, length, get_or, set, take, refl, sym, ap, ◌∙◌, subst, arith}
use Rattle.std.specs.Prelude.{Contains}
use Rattle.std.proofs.lemmas.List.{take_more, get_or_default}
use Rattle.std.proofs.lemmas.List.Elements.{Contains-get_or}
use Rattle.ms_paths.specs.Flow.{Block as Run, HasEdge, IsClosed}
use Rattle.ms_ir.specs.Func.{Block}
use Rattle.ms_ir.specs.Graph.{successors, graph_of}
use Rattle.ms_flow.specs.declared.table.Targets.{Targets}
use Rattle.ms_flow.specs.declared.table.Targets.TheVariants.{Ends, One, Two}
use Rattle.ms_flow.specs.Table.{list_of, run_to, edges, edges_of, next_of, IsWithin, AreWithin}

pub length-edges : (ts : List Targets) → length (edges ts) ≡ length ts
length-edges [] = refl
length-edges (t ∷ ts) = ap suc (length-edges ts)

pub length-edges_of : (bs : List Block) → length (edges_of bs) ≡ length bs
length-edges_of [] = refl
length-edges_of (b ∷ bs) = ap suc (length-edges_of bs)

pub length-graph_of : (bs : List Block) → length (graph_of bs) ≡ length bs
length-graph_of [] = refl
length-graph_of (b ∷ bs) = ap suc (length-graph_of bs)

pub next_at : (ts : List Targets) (b : ℕ) (d : Targets) → b < length ts → next_of (edges ts) b ≡ list_of (get_or ts b d)
next_at [] b d h = absurd (omega arith)
next_at (t ∷ ts) zero d h = refl
next_at (t ∷ ts) (suc b) d h = next_at ts b d (omega arith)

within_at : (n : ℕ) (ts : List Targets) (b : ℕ) (d : Targets) → AreWithin n ts → b < length ts → IsWithin n (get_or ts b d)
within_at n [] b d w h = absurd (omega arith)
within_at n (t ∷ ts) zero d w h = w.0
within_at n (t ∷ ts) (suc b) d w h = within_at n ts b d w.1 (omega arith)

within_slot : (n : ℕ) (t : Targets) (slot : ℕ) → IsWithin n t → slot < length (list_of t) → get_or (list_of t) slot 0 < n
within_slot n Ends slot w h = absurd (omega arith)
within_slot n (One a) zero w h = w
within_slot n (One a) (suc slot) w h = absurd (omega arith)
within_slot n (Two a b) zero w h = w.0
within_slot n (Two a b) (suc zero) w h = w.1
within_slot n (Two a b) (suc (suc slot)) w h = absurd (omega arith)

-- each target of a block is within the bound
pub target_within : (n : ℕ) (ts : List Targets) (b slot : ℕ) (d : Targets) → AreWithin n ts → b < length ts → slot < length (list_of (get_or ts b d)) → get_or (list_of (get_or ts b d)) slot 0 < n
target_within n ts b slot d w h lt = within_slot n (get_or ts b d) slot (within_at n ts b d w h) lt

edges-push : (ts : List Targets) (t : Targets) → edges (ts ++ t ∷ []) ≡ edges ts ++ run_to (list_of t) ∷ []
edges-push [] t = refl
edges-push (x ∷ ts) t = ap (λ r. run_to (list_of x) ∷ r) (edges-push ts t)

edges_of-push : (bs : List Block) (b : Block) → edges_of (bs ++ b ∷ []) ≡ edges_of bs ++ run_to (successors b.term) ∷ []
edges_of-push [] b = refl
edges_of-push (x ∷ bs) b = ap (λ r. run_to (successors x.term) ∷ r) (edges_of-push bs b)

-- the table of the first blocks, and of one more
pub edges_more : (ts : List Targets) (t : Targets) (bs : List Block) (n : ℕ) (d : Block) → n < length bs → list_of t ≡ successors (get_or bs n d).term → edges ts ≡ edges_of (take n bs) → edges (ts ++ t ∷ []) ≡ edges_of (take (n + 1) bs)
edges_more ts t bs n d lt e h =
    edges-push ts t ∙ ap (λ g. g ++ run_to (list_of t) ∷ []) h ∙ ap (λ r. edges_of (take n bs) ++ run_to r ∷ []) e
    ∙ sym (edges_of-push (take n bs) (get_or bs n d)) ∙ ap edges_of (sym (take_more bs n d lt))

-- both graphs of a function have the same edges
pub same_next : (bs : List Block) (b : ℕ) → next_of (edges_of bs) b ≡ next_of (graph_of bs) b
same_next [] b = refl
same_next (x ∷ bs) zero = refl
same_next (x ∷ bs) (suc b) = same_next bs b

one_within : (n : ℕ) (t : Targets) → ((slot : ℕ) → slot < length (list_of t) → get_or (list_of t) slot 0 < n) → IsWithin n t
one_within n Ends h = tt
one_within n (One a) h = h 0 (omega arith)
one_within n (Two a b) h = (h 0 (omega arith), h 1 (omega arith))

all_within : (n : ℕ) (ts : List Targets) → ((b slot : ℕ) → slot < length (next_of (edges ts) b) → get_or (next_of (edges ts) b) slot 0 < n) → AreWithin n ts
all_within n [] h = tt
all_within n (t ∷ ts) h = (one_within n t (h 0), all_within n ts (λ b. h (suc b)))

-- the table of a closed graph names its own blocks
pub within_closed : (ts : List Targets) (bs : List Block) (n : ℕ) → IsClosed (graph_of bs) → edges ts ≡ edges_of bs → n ≡ length bs → AreWithin n ts
within_closed ts bs n closed e m =
    all_within n ts
    (λ b slot lt.
    let same : next_of (edges ts) b ≡ next_of (graph_of bs) b = ap (λ g. next_of g b) e ∙ same_next bs b in
    let far : slot < length (next_of (graph_of bs) b) = subst (λ (l : List ℕ). slot < length l) same lt in
    let below = closed.edges_in b (get_or (next_of (graph_of bs) b) slot 0) (Contains-get_or (next_of (graph_of bs) b) slot 0 far) in
    let size = length-graph_of bs in
    let same_target : get_or (next_of (edges ts) b) slot 0 ≡ get_or (next_of (graph_of bs) b) slot 0 = ap (λ (l : List ℕ). get_or l slot 0) same in
    omega arith)

pub edges_few : (ts : List Targets) (b : ℕ) → length (next_of (edges ts) b) ≤ 2
edges_few [] b = omega arith
edges_few (Ends ∷ ts) zero = omega arith
edges_few (One a ∷ ts) zero = omega arith
edges_few (Two a c ∷ ts) zero = omega arith
edges_few (t ∷ ts) (suc b) = edges_few ts b

one_target : (n : ℕ) (t : Targets) (b : ℕ) → IsWithin n t → Contains (list_of t) b → b < n
one_target n t b w h = let r = within_slot n t h.0 w h.1 in let e : get_or (list_of t) h.0 0 ≡ b = get_or_default (list_of t) h.0 0 b h.1 ∙ h.2 in omega arith

-- each edge leads below the bound
pub edges_within : (n : ℕ) (ts : List Targets) → AreWithin n ts → (a b : ℕ) → HasEdge (edges ts) a b → b < n
edges_within n [] w a b h = absurd (omega (arith, h.1))
edges_within n (t ∷ ts) w zero b h = one_target n t b w.0 h
edges_within n (t ∷ ts) w (suc a) b h = edges_within n ts w.1 a b h

-- a function's graph without the instructions is closed too
pub edges_closed : (bs : List Block) → IsClosed (graph_of bs) → IsClosed (edges_of bs)
edges_closed bs closed =
    let m = length-graph_of bs in
    let n = length-edges_of bs in
    let first = closed.has_entry in
    record {
      has_entry = omega arith;
      edges_in = λ a b h.
          let h' : HasEdge (graph_of bs) a b = subst (λ (l : List ℕ). Contains l b) (same_next bs a) h in
          let below = closed.edges_in a b h' in
          omega arith;
    }

-- a block with one target
pub edges_set_one : (ts : List Targets) (b n : ℕ) → edges (set ts b (One n)) ≡ set (edges ts) b (run_to (n ∷ []))
edges_set_one [] b n = refl
edges_set_one (t ∷ ts) zero n = refl
edges_set_one (t ∷ ts) (suc b) n = ap (λ (l : List Run). run_to (list_of t) ∷ l) (edges_set_one ts b n)

pub within_set_one : (m : ℕ) (ts : List Targets) (b n : ℕ) → AreWithin m ts → n < m → AreWithin m (set ts b (One n))
within_set_one m [] b n w h = tt
within_set_one m (t ∷ ts) zero n w h = (h, w.1)
within_set_one m (t ∷ ts) (suc b) n w h = (w.0, within_set_one m ts b n w.1 h)
