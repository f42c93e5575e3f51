-- What a path meets, told by the places of instructions.
use Rattle.std.proofs.Common.{◌≡◌, ◌<◌, ◌⊎◌, ℕ, zero, suc, List, [], ◌∷◌, take, Some, refl, sym, ap, subst, inl, inr, arith}
use Rattle.std.specs.Prelude.{Contains, slice_get}
use Rattle.ms_paths.specs.Flow.{IsMet}
use Rattle.ms_ir.specs.Func.{Placed, Block, insts_at}
use Rattle.ms_ir.specs.Graph.{graph_of, numbers}
use Rattle.ms_edited.proofs.Shape.{events_at}

in_numbers : (xs : List Placed) (n : ℕ) → Contains (numbers xs) n → (j : ℕ) × (y : Placed) × (slice_get xs j ≡ Some y) × (y.number ≡ n)
in_numbers [] n (k, lt, is) = absurd (let l : k < 0 = lt in omega arith)
in_numbers (x ∷ xs) n (zero, lt, is) = (zero, x, refl, is)
in_numbers (x ∷ xs) n (suc k, lt, is) = let r = in_numbers xs n (k, omega arith, is) in (suc r.0, r.1, r.2, r.3)

in_taken : (xs : List Placed) (k n : ℕ) → Contains (take k (numbers xs)) n → (j : ℕ) × (y : Placed) × (slice_get xs j ≡ Some y) × (y.number ≡ n) × (j < k)
in_taken xs zero n (i, lt, is) = absurd (let l : i < 0 = lt in omega arith)
in_taken [] (suc k) n (i, lt, is) = absurd (let l : i < 0 = lt in omega arith)
in_taken (x ∷ xs) (suc k) n (zero, lt, is) = (zero, x, refl, is, omega arith)
in_taken (x ∷ xs) (suc k) n (suc i, lt, is) = let r = in_taken xs k n (i, omega arith, is) in (suc r.0, r.1, r.2, r.3, (let l = r.4 in omega arith))

numbers_in : (xs : List Placed) (j : ℕ) (y : Placed) → slice_get xs j ≡ Some y → Contains (numbers xs) y.number
numbers_in [] j y e = cc
numbers_in (x ∷ xs) zero y e = let one : x ≡ y = cc in (zero, omega arith, ap (λ (z : Placed). z.number) one)
numbers_in (x ∷ xs) (suc j) y e = let r = numbers_in xs j y e in (suc r.0, (let l = r.1 in omega arith), r.2)

taken_in : (xs : List Placed) (j k : ℕ) (y : Placed) → slice_get xs j ≡ Some y → j < k → Contains (take k (numbers xs)) y.number
taken_in xs j zero y e lt = absurd (omega arith)
taken_in [] j (suc k) y e lt = cc
taken_in (x ∷ xs) zero (suc k) y e lt = let one : x ≡ y = cc in (zero, omega arith, ap (λ (z : Placed). z.number) one)
taken_in (x ∷ xs) (suc j) (suc k) y e lt = let r = taken_in xs j k y e (omega arith) in (suc r.0, (let l = r.1 in omega arith), r.2)

-- an instruction of this number stands before place k of block c, or in a block of the path
abbrev pub StandsOn : List Block → ℕ → ℕ → ℕ → List ℕ → Type 0
StandsOn blocks n c k p =
    ((j : ℕ) × (y : Placed) × (slice_get (insts_at blocks c) j ≡ Some y) × (y.number ≡ n) × (j < k))
    ⊎ ((a : ℕ) × Contains p a × (j : ℕ) × (y : Placed) × (slice_get (insts_at blocks a) j ≡ Some y) × (y.number ≡ n))

pub met_stands : (blocks : List Block) (n c k : ℕ) (p : List ℕ) → IsMet (graph_of blocks) n c k p → StandsOn blocks n c k p
met_stands blocks n c k p (inl here) = inl (in_taken (insts_at blocks c) k n (subst (λ is. Contains (take k is) n) (events_at blocks c) here))
met_stands blocks n c k p (inr (a, on, there)) = let r = in_numbers (insts_at blocks a) n (subst (λ is. Contains is n) (events_at blocks a) there) in inr (a, on, r.0, r.1, r.2, r.3)

pub stands_met : (blocks : List Block) (n c k : ℕ) (p : List ℕ) → StandsOn blocks n c k p → IsMet (graph_of blocks) n c k p
stands_met blocks n c k p (inl (j, y, found, is, less)) =
    inl (subst (λ is. Contains (take k is) n) (sym (events_at blocks c)) (subst (λ i. Contains (take k (numbers (insts_at blocks c))) i) is (taken_in (insts_at blocks c) j k y found less)))
stands_met blocks n c k p (inr (a, on, j, y, found, is)) =
    inr (a, on, subst (λ is. Contains is n) (sym (events_at blocks a)) (subst (λ i. Contains (numbers (insts_at blocks a)) i) is (numbers_in (insts_at blocks a) j y found)))
