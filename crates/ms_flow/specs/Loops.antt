-- Cycles of a reducible graph, told by the order of its blocks.
use Rattle.std.specs.Prelude.{◌≡◌, ◌<◌, ◌≤◌, ◌⊎◌, ℕ, List, [], ◌∷◌, length, slice_index}
use Rattle.ms_paths.specs.Flow.{Block as Run, HasEdge, IsReached}
use Rattle.ms_flow.specs.Flow.{place_of}

-- a walk from a to b on which each edge goes up in the order: w has the blocks before b, the latest first, and a as its last
abbrev pub IsRise : List Run → ℕ → ℕ → List ℕ → Type 0
IsRise g a b [] = a ≡ b
IsRise g a b (c ∷ w) = HasEdge g c b × (place_of g c < place_of g b) × IsRise g a c w

-- an edge that does not go up leads to h from a block to which edges that go up lead from b
pub record FallsTo (g : List Run) (b h : ℕ) : Type 0 where
  pub top : ℕ
  pub way : List ℕ
  pub rise : IsRise g b top way
  pub edge : HasEdge g top h
  pub falls : place_of g h ≤ place_of g top

-- the same, over an edge from b to c first
abbrev pub FallsOver : List Run → ℕ → ℕ → ℕ → Type 0
FallsOver g b c h = ((c ≡ h) × (place_of g h ≤ place_of g b)) ⊎ ((place_of g b < place_of g c) × FallsTo g c h)

-- the least place of the blocks of F; the number of blocks where F has none
pub record IsLeast (g : List Run) (F : ℕ → Type 0) (low : ℕ) : Type 0 where
  pub least : (h : ℕ) → F h → low ≤ place_of g h
  pub is : (low ≡ length g) ⊎ ((h : ℕ) × F h × (low ≡ place_of g h))

-- the least place to which b falls
abbrev pub IsLow : List Run → ℕ → ℕ → Type 0
IsLow g b low = IsLeast g (FallsTo g b) low

-- the blocks from a place on have their lows
pub record AreLow (g : List Run) (from : ℕ) (lows : List ℕ) : Type 0 where
  pub blocks : length lows ≡ length g
  pub have_low : (b : ℕ) → IsReached g b → from ≤ place_of g b → IsLow g b (slice_index lows b)
