-- Tables of a function's instructions and blocks.
use Rattle.std.specs.Prelude.{◌≡◌, ◌≢◌, ◌⊎◌, ◌<◌, ℕ, List, [], ◌∷◌, ◌++◌, Some, length, map, slice_get, slice_index_or, slice_set}
use Rattle.ms_ir.specs.declared.inst.Inst.{Inst}
use Rattle.ms_ir.specs.declared.inst.Inst.TheVariants.{Alloca, Gep, Step, Load, Store, Copy, Call, Bin, Cmp, Select, Cast, Phi}
use Rattle.ms_ir.specs.Func.{Placed, Block, insts_at}
use Rattle.ms_ir.specs.Sound.{times_in, edges_between, from_of, HasTwoValues}
use Rattle.ms_validity.specs.declared.spots.Spot.{Spot}

abbrev pub spot_at : ℕ → ℕ → Spot
spot_at b k = record { block = b; place = k }

-- each instruction stands where its number says
abbrev pub AreSpots : List Block → List Spot → Type 0
AreSpots blocks spots = (b k : ℕ) (x : Placed) → slice_get (insts_at blocks b) k ≡ Some x → slice_get spots x.number ≡ Some (spot_at b k)

-- for each block the blocks that its incoming edges leave, each as often as it has such an edge
pub record AreSources (blocks : List Block) (lists : List (List ℕ)) : Type 0 where
  pub blocks_are : length lists ≡ length blocks
  pub each : (a b : ℕ) → b < length blocks → times_in a (slice_index_or lists b []) ≡ edges_between blocks a b

-- an edge from a more at the list of t
abbrev pub with_source : List (List ℕ) → ℕ → ℕ → List (List ℕ)
with_source lists t a = slice_set lists t (slice_index_or lists t [] ++ a ∷ [])

-- the edges from a to each of these blocks more
abbrev pub with_sources : List (List ℕ) → List ℕ → ℕ → List (List ℕ)
with_sources lists [] a = lists
with_sources lists (t ∷ ts) a = with_sources (with_source lists t a) ts a

-- the entries of a phi are not the edges from these blocks
abbrev pub HasBadEntriesFor : List ℕ → Inst → Type 0
HasBadEntriesFor sources (Phi ty entries tail) = ((a : ℕ) × (times_in a (map from_of entries) ≢ times_in a sources)) ⊎ HasTwoValues entries
HasBadEntriesFor sources (Alloca size head tail) = ⊥
HasBadEntriesFor sources (Gep base offset head index tail) = ⊥
HasBadEntriesFor sources (Step base offset terms head index tail) = ⊥
HasBadEntriesFor sources (Load ty ptr tail) = ⊥
HasBadEntriesFor sources (Store ty val ptr tail) = ⊥
HasBadEntriesFor sources (Copy to from len head tail) = ⊥
HasBadEntriesFor sources (Call callee ret args effects head tail) = ⊥
HasBadEntriesFor sources (Bin op flags ty a b tail) = ⊥
HasBadEntriesFor sources (Cmp pred flags ty a b tail) = ⊥
HasBadEntriesFor sources (Select cond ty a b tail) = ⊥
HasBadEntriesFor sources (Cast op flags from a to tail) = ⊥
