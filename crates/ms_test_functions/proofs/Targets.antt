-- What calls ask of a function, as it is found out block by block.
use Rattle.std.proofs.Common.{◌≡◌, ◌+◌, ◌<◌, ◌≤◌, ℕ, zero, suc, List, [], ◌∷◌, length, get_or, refl, subst, ⊎_elim, arith}
use Rattle.std.specs.Prelude.{Contains}
use Rattle.std.proofs.lemmas.Bool.{cases_eq, cases_lt}
use Rattle.std.proofs.lemmas.List.{get_or_past}
use Rattle.ms_paths.specs.Flow.{IsClosed, block_at}
use Rattle.ms_ir.specs.Func.{Block, no_block}
use Rattle.ms_ir.specs.Graph.{graph_of, successors}
use Rattle.ms_flow.proofs.Tables.{length-graph_of}

-- the first blocks lead to blocks
abbrev pub AreTargets : List Block → ℕ → Type 0
AreTargets blocks n = (a c : ℕ) → a < n → Contains (successors (get_or blocks a no_block).term) c → c < length blocks

pub targets_more : (blocks : List Block) (n : ℕ) → AreTargets blocks n → ((c : ℕ) → Contains (successors (get_or blocks n no_block).term) c → c < length blocks) → AreTargets blocks (n + 1)
targets_more blocks n old new a c lt e =
    ⊎_elim
    (λ (is : a ≡ n). new c (subst (λ k. Contains (successors (get_or blocks k no_block).term) c) is e))
    (λ (other : a ≡ n → ⊥). old a c (omega arith) e)
    (cases_eq a n)

next_at : (blocks : List Block) (a : ℕ) → (block_at (graph_of blocks) a).next ≡ successors (get_or blocks a no_block).term
next_at [] a = refl
next_at (x ∷ blocks) zero = refl
next_at (x ∷ blocks) (suc a) = next_at blocks a

pub closed_from : (blocks : List Block) → 0 < length blocks → AreTargets blocks (length blocks) → IsClosed (graph_of blocks)
closed_from blocks some h =
    let size = length-graph_of blocks in
    record {
      has_entry = omega arith;
      edges_in = λ a c e. let below = inside a c (subst (λ (xs : List ℕ). Contains xs c) (next_at blocks a) e) in omega arith;
    }
  where
    inside : (a c : ℕ) → Contains (successors (get_or blocks a no_block).term) c → c < length blocks
    inside a c e =
        ⊎_elim
        (λ (lt : a < length blocks). h a c lt e)
        (λ (past : length blocks ≤ a). let none = subst (λ (x : Block). Contains (successors x.term) c) (get_or_past blocks a no_block past) e in absurd (omega (arith, none.1)))
        (cases_lt a (length blocks))
