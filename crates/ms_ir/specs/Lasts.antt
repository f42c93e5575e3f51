-- What paths tell of a function: the blocks that are reached, those that need a phi, and the last access of memory before each instruction.
use Rattle.std.specs.Prelude.{◌≡◌, ◌↔◌, ℕ, Bool, false, List, IsTrue}
use Rattle.ms_paths.specs.Flow.{Event, Entry, IsReached, IsNeeded, IsAnswer}
use Rattle.ms_ir.specs.Func.{Block}
use Rattle.ms_ir.specs.Graph.{graph_of, defs_of}

-- Which blocks are reached, which need a phi for all Defs, and the answer before each instruction of a reached block.
-- What is last in other blocks does not matter; it is given as Entry.
pub record IsLasts (blocks : List Block) (reached phis : ℕ → Bool) (last : ℕ → ℕ → Event) : Type 0 where
  pub reached_are : (b : ℕ) → IsTrue (reached b) ↔ IsReached (graph_of blocks) b
  pub phis_are : IsNeeded (graph_of blocks) (defs_of blocks) phis
  pub last_is : (b k : ℕ) → IsReached (graph_of blocks) b → IsAnswer (graph_of blocks) (defs_of blocks) b k (last b k)
  pub elsewhere : (b k : ℕ) → reached b ≡ false → last b k ≡ Entry
