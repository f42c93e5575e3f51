-- Graphs with the same edges.
use Rattle.std.proofs.Common.{◌≡◌, ℕ, zero, suc, ◌↔◌, List, [], ◌∷◌, get_or, refl, sym, subst}
use Rattle.std.specs.Prelude.{Contains}
use Rattle.ms_paths.specs.Flow.{Block as Run, HasEdge, IsPath, IsReached, IsWalk, IsOnEveryPath, IsReducible}
use Rattle.ms_ir.specs.Func.{Block, no_block}
use Rattle.ms_ir.specs.Graph.{graph_of, successors}
use Rattle.ms_flow.specs.Table.{edges_of, next_of}
use Rattle.ms_flow.proofs.Tables.{same_next}

abbrev SameNext : List Run → List Run → Type 0
SameNext g h = (b : ℕ) → next_of g b ≡ next_of h b

back : (g h : List Run) → SameNext g h → SameNext h g
back g h same = λ b. sym (same b)

edge_along : (g h : List Run) → SameNext g h → (a b : ℕ) → HasEdge g a b → HasEdge h a b
edge_along g h same a b e = subst (λ (l : List ℕ). Contains l b) (same a) e

path_along : (g h : List Run) → SameNext g h → (b : ℕ) (p : List ℕ) → IsPath g b p → IsPath h b p
path_along g h same b [] k = k
path_along g h same b (a ∷ p) k = (edge_along g h same a b k.0, path_along g h same a p k.1)

walk_along : (g h : List Run) → SameNext g h → (a b : ℕ) (w : List ℕ) → IsWalk g a b w → IsWalk h a b w
walk_along g h same a b [] k = k
walk_along g h same a b (c ∷ w) k = (edge_along g h same c b k.0, walk_along g h same a c w k.1)

every_along : (g h : List Run) → SameNext g h → (x b : ℕ) → IsOnEveryPath g x b → IsOnEveryPath h x b
every_along g h same x b e = λ p k. e p (path_along h g (back g h same) b p k)

reducible_along : (g h : List Run) → SameNext g h → IsReducible g → IsReducible h
reducible_along g h same r = λ b c w reached walk.
    let found = r b c w (reached.0, path_along h g (back g h same) b reached.0 reached.1) (walk_along h g (back g h same) b b (c ∷ w) walk) in
    (found.0, found.1, λ x i. every_along g h same found.0 x (found.2 x i))

two_ways : (blocks : List Block) → SameNext (graph_of blocks) (edges_of blocks)
two_ways blocks = λ b. sym (same_next blocks b)

pub edges_same : (blocks : List Block) (a b : ℕ) → HasEdge (edges_of blocks) a b ↔ HasEdge (graph_of blocks) a b
edges_same blocks a b = (edge_along (edges_of blocks) (graph_of blocks) (same_next blocks) a b, edge_along (graph_of blocks) (edges_of blocks) (two_ways blocks) a b)

pub paths_same : (blocks : List Block) (b : ℕ) (p : List ℕ) → IsPath (edges_of blocks) b p ↔ IsPath (graph_of blocks) b p
paths_same blocks b p = (path_along (edges_of blocks) (graph_of blocks) (same_next blocks) b p, path_along (graph_of blocks) (edges_of blocks) (two_ways blocks) b p)

pub reached_same : (blocks : List Block) (b : ℕ) → IsReached (edges_of blocks) b ↔ IsReached (graph_of blocks) b
reached_same blocks b = (λ r. (r.0, (paths_same blocks b r.0).0 r.1), λ r. (r.0, (paths_same blocks b r.0).1 r.1))

pub walks_same : (blocks : List Block) (a b : ℕ) (w : List ℕ) → IsWalk (edges_of blocks) a b w ↔ IsWalk (graph_of blocks) a b w
walks_same blocks a b w = (walk_along (edges_of blocks) (graph_of blocks) (same_next blocks) a b w, walk_along (graph_of blocks) (edges_of blocks) (two_ways blocks) a b w)

pub every_same : (blocks : List Block) (h b : ℕ) → IsOnEveryPath (edges_of blocks) h b ↔ IsOnEveryPath (graph_of blocks) h b
every_same blocks h b = (every_along (edges_of blocks) (graph_of blocks) (same_next blocks) h b, every_along (graph_of blocks) (edges_of blocks) (two_ways blocks) h b)

pub reducible_same : (blocks : List Block) → IsReducible (edges_of blocks) ↔ IsReducible (graph_of blocks)
reducible_same blocks = (reducible_along (edges_of blocks) (graph_of blocks) (same_next blocks), reducible_along (graph_of blocks) (edges_of blocks) (two_ways blocks))

-- the targets of a block are those of its terminator
pub targets_same : (blocks : List Block) (b : ℕ) → next_of (edges_of blocks) b ≡ successors (get_or blocks b no_block).term
targets_same [] b = refl
targets_same (x ∷ blocks) zero = refl
targets_same (x ∷ blocks) (suc b) = targets_same blocks b
