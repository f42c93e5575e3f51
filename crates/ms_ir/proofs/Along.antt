-- Going along the instructions of a block.
use Rattle.std.proofs.Common.{◌≡◌, ◌<◌, ℕ, suc, zero, ◌+◌, List, [], ◌∷◌, drop, length, Option, Some, None, refl, ap, arith, add-one}
use Rattle.std.specs.Prelude.{slice_get, option_map}
use Rattle.ms_ir.specs.declared.names.InstNo.{InstNo}
use Rattle.ms_ir.specs.Func.{Placed, Block, IsAt, insts_at}

-- the number at a place of a block is this instruction's
abbrev pub IsCursor : List Block → ℕ → ℕ → Option InstNo → Type 0
IsCursor blocks b k at = option_map (λ i. i.0) at ≡ option_map (λ x. x.number) (slice_get (insts_at blocks b) k)

-- the instruction at a place
pub record IsHere (blocks : List Block) (b k : ℕ) (i : InstNo) : Type 0 where
  pub x : Placed
  pub at : IsAt blocks i.0 b k x

found_at : (i : InstNo) (y : Option Placed) → Some i.0 ≡ option_map (λ x. x.number) y → (x : Placed) × (y ≡ Some x) × (x.number ≡ i.0)
found_at i None e = cc
found_at i (Some x) e = (x, refl, cc)

pub here : (blocks : List Block) (b k : ℕ) (i : InstNo) → b < length blocks → IsCursor blocks b k (Some i) → IsHere blocks b k i
here blocks b k i lt e =
    let f = found_at i (slice_get (insts_at blocks b) k) e in
    record { x = f.0; at = record { block = lt; found = f.1; numbered = f.2 } }

get_some : {A : Type 0} (xs : List A) (k : ℕ) → k < length xs → slice_get xs k ≡ None → ⊥
get_some [] k lt e = absurd (omega arith)
get_some (x ∷ xs) zero lt e = cc
get_some (x ∷ xs) (suc k) lt e = get_some xs k (omega arith) e

none_at : (y : Option Placed) → None ≡ option_map (λ x. x.number) y → y ≡ None
none_at None e = refl
none_at (Some x) e = cc

pub not_past : (blocks : List Block) (b k : ℕ) → k < length (insts_at blocks b) → IsCursor blocks b k None → ⊥
not_past blocks b k lt e = get_some (insts_at blocks b) k lt (none_at (slice_get (insts_at blocks b) k) e)

-- a member at its place is the first of the rest
pub there : {A : Type 0} (xs : List A) (n : ℕ) (x : A) → slice_get xs n ≡ Some x → drop n xs ≡ x ∷ drop (n + 1) xs
there xs n x e = rw add-one (rest xs n x e)
  where
    rest : {A : Type 0} (xs : List A) (n : ℕ) (x : A) → slice_get xs n ≡ Some x → drop n xs ≡ x ∷ drop (suc n) xs
    rest [] n x e = cc
    rest (y ∷ xs) zero x e = let same : y ≡ x = cc in ap (λ p. p ∷ xs) same
    rest (y ∷ xs) (suc n) x e = rest xs n x e

-- a block with an instruction is there
pub block_within : (blocks : List Block) (b k : ℕ) (x : Placed) → slice_get (insts_at blocks b) k ≡ Some x → b < length blocks
block_within [] b k x e = cc
block_within (y ∷ blocks) zero k x e = omega arith
block_within (y ∷ blocks) (suc b) k x e = let r = block_within blocks b k x e in omega arith
