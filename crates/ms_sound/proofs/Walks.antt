-- A run walks along the edges of the flow graph.
use Rattle.std.proofs.Common.{◌≡◌, ◌∙◌, ◌+◌, ◌<◌, ◌≤◌, ◌⊎◌, ℕ, zero, suc, true, false, List, [], ◌∷◌, refl, sym, subst, inl, inr, ⊎_elim, arith}
use Rattle.std.specs.Prelude.{nat_le}
use Rattle.std.proofs.lemmas.Bool.{cases_Bool}
use Rattle.std.proofs.lemmas.Bool.Decides.{nat_tests}
use Rattle.ms_paths.specs.Flow.{Block as Run, HasEdge, IsWalk, IsPath, IsReached}
use Rattle.ms_ir.specs.Func.{FuncState}
use Rattle.ms_ir.specs.Graph.{graph_of}
use Rattle.ms_flow.specs.Table.{edges_of}
use Rattle.ms_flow.proofs.Same.{reached_same, walks_same}
use Rattle.ms_flow.specs.Flow.{IsOnCycle}
use Rattle.ms_meaning.specs.States.{Input, State, begun}
use Rattle.ms_meaning.specs.Traces.{IsOn}
use Rattle.ms_meaning.proofs.Goes.{Goes, ran, left, goes, before, one_state}

-- a walk from the block at one moment to that at a later one; without an edge, a place further for each step
pub record Joins (f : FuncState) (t s : State) (m n : ℕ) : Type 0 where
  pub way : List ℕ
  pub walk : IsWalk (graph_of f.blocks) t.block s.block way
  pub flat : way ≡ [] → t.place + n ≤ s.place + m

at_once : (f : FuncState) (t s : State) (m : ℕ) → t ≡ s → Joins f t s m m
at_once f t s m e = subst (λ s. Joins f t s m m) e (record { way = []; walk = refl; flat = λ h. omega arith })

further : (f : FuncState) (t u s : State) (m n : ℕ) → Joins f t u m n → Goes f u s → Joins f t s m (suc n)
further f t u s m n j (ran x d e is same) =
    subst (λ s. Joins f t s m (suc n)) (sym same) (record { way = j.way; walk = j.walk; flat = λ h. let p = j.flat h in omega arith })
further f t u s m n j (left b locals e edge phis same) =
    subst (λ s. Joins f t s m (suc n)) (sym same) (record { way = u.block ∷ j.way; walk = (edge, j.walk); flat = λ h. cc })

pub split : (m n : ℕ) → m ≤ suc n → (m ≡ suc n) ⊎ (m ≤ n)
split m n h =
    ⊎_elim
    (λ (t : nat_le m n ≡ true). inr (grind (arith, nat_tests)))
    (λ (f : nat_le m n ≡ false). inl (grind (arith, nat_tests)))
    (cases_Bool (nat_le m n))

pub joined : (f : FuncState) (input : Input) (m n : ℕ) (t s : State) → m ≤ n → IsOn f input m t → IsOn f input n s → Joins f t s m n
joined f input m zero t s le p q =
    let e : m ≡ zero = omega arith in
    subst (λ k. Joins f t s m k) e (at_once f t s m (one_state f input zero t s (subst (λ k. IsOn f input k t) e p) q))
joined f input m (suc n) t s le p q =
    ⊎_elim
    (λ (e : m ≡ suc n). subst (λ k. Joins f t s m k) e (at_once f t s m (one_state f input (suc n) t s (subst (λ k. IsOn f input k t) e p) q)))
    (λ (l : m ≤ n).
    let u = before f input n s q in
    further f t u.0 s m n (joined f input m n t u.0 l p u.1) (goes f u.0 s u.2))
    (split m n le)

walk_path : (g : List Run) (a b : ℕ) (w : List ℕ) → a ≡ 0 → IsWalk g a b w → IsPath g b w
walk_path g a b [] z h = sym h ∙ z
walk_path g a b (c ∷ w) z h = (h.0, walk_path g a c w z h.1)

-- the block of a moment is reached
pub reached : (f : FuncState) (input : Input) (n : ℕ) (s : State) → IsOn f input n s → IsReached (graph_of f.blocks) s.block
reached f input n s h = let j = joined f input zero n (begun input) s (omega arith) refl h in (j.way, walk_path (graph_of f.blocks) 0 s.block j.way refl j.walk)

-- a closed walk is a cycle of the graph without its instructions, too
on_cycle : (f : FuncState) (b : ℕ) (c : ℕ) (w : List ℕ) → IsReached (graph_of f.blocks) b → IsWalk (graph_of f.blocks) b b (c ∷ w) → IsOnCycle (edges_of f.blocks) b
on_cycle f b c w r walk = ((reached_same f.blocks b).1 r, (c, w, (walks_same f.blocks b b (c ∷ w)).1 walk))

nonempty : (g : List Run) (a b : ℕ) (w : List ℕ) → IsWalk g a b w → (w ≡ [] → ⊥) → (c : ℕ) × (v : List ℕ) × IsWalk g a b (c ∷ v)
nonempty g a b [] h some = absurd (some refl)
nonempty g a b (c ∷ w) h some = (c, w, h)

-- a place that is come to twice is on a cycle
pub comes_again : (f : FuncState) (input : Input) (m n : ℕ) (t s : State) → m < n → IsOn f input m t → IsOn f input n s → t.block ≡ s.block → s.place ≤ t.place →
    IsOnCycle (edges_of f.blocks) s.block
comes_again f input m n t s lt p q same place =
    let j = joined f input m n t s (omega arith) p q in
    let some : j.way ≡ [] → ⊥ = λ e. let flat = j.flat e in omega arith in
    let closed = nonempty (graph_of f.blocks) s.block s.block j.way (subst (λ a. IsWalk (graph_of f.blocks) a s.block j.way) same j.walk) some in
    on_cycle f s.block closed.0 closed.1 (reached f input n s q) closed.2

-- and so is a block that is entered after it was there
pub enters_again : (f : FuncState) (input : Input) (m n : ℕ) (t s : State) (b : ℕ) → m ≤ n → IsOn f input m t → IsOn f input n s → t.block ≡ b → HasEdge (graph_of f.blocks) s.block b →
    IsOnCycle (edges_of f.blocks) b
enters_again f input m n t s b le p q same edge =
    let j = joined f input m n t s le p q in
    let to = reached f input n s q in
    on_cycle f b s.block j.way (s.block ∷ to.0, (edge, to.1)) (edge, subst (λ a. IsWalk (graph_of f.blocks) a s.block j.way) same j.walk)
