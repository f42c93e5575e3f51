-- What a search for the last counted Def answers.
use Rattle.std.specs.Prelude.{◌≡◌, ◌⊎◌, ℕ, Bool, List, length, IsTrue, Some}
use Rattle.ms_paths.specs.Flow.{IsReached, IsAnswer}
use Rattle.ms_ir.specs.Func.{Placed, Block, IsAt, insts_at}
use Rattle.ms_ir.specs.Graph.{graph_of, defs_of}
use Rattle.ms_form.specs.declared.access.Access.{Access}
use Rattle.ms_form.specs.Form.{FormState}
use Rattle.ms_build.specs.Accesses.{event_of, defining_at, entering_at}
use Rattle.ms_build.specs.Filled.{before_at}
use Rattle.ms_climb.specs.Chains.{or_entry}

-- each counted instruction is a Def of the function
abbrev pub AreDefs : List Block → (ℕ → Bool) → Type 0
AreDefs blocks E = (j : ℕ) → IsTrue (E j) → IsTrue (defs_of blocks j)

-- the instruction stands in a reached block
pub record StandsReached (blocks : List Block) (i : ℕ) : Type 0 where
  pub block : ℕ
  pub place : ℕ
  pub inst : Placed
  pub at : IsAt blocks i block place inst
  pub reached : IsReached (graph_of blocks) block

-- the last counted Def before a place of a block, on every path to it, with phis at the blocks that need one
abbrev pub IsLastAt : List Block → (ℕ → Bool) → ℕ → ℕ → Access → Type 0
IsLastAt blocks E b k a = IsAnswer (graph_of blocks) E b k (event_of a)

-- the same before an instruction, and at the end of a block
abbrev pub IsLastBefore : List Block → (ℕ → Bool) → ℕ → Access → Type 0
IsLastBefore blocks E i a = (b k : ℕ) (x : Placed) → IsAt blocks i b k x → IsLastAt blocks E b k a

abbrev pub IsLastAtEnd : List Block → (ℕ → Bool) → ℕ → Access → Type 0
IsLastAtEnd blocks E b a = IsLastAt blocks E b (length (insts_at blocks b)) a

-- The access that the form has for an instruction, or else the last Def before its place in its block, or what enters the block.
abbrev pub IsStartAt : List Block → FormState → ℕ → ℕ → ℕ → Access → Type 0
IsStartAt blocks f i b k a = (defining_at f i ≡ Some a) ⊎ (a ≡ or_entry (before_at blocks b k (entering_at f b)))
