-- A sound function begins once.
use Rattle.std.proofs.Common.{◌≡◌, ◌<◌, ℕ, zero, suc, List, [], ◌∷◌, Some, refl, arith}
use Rattle.std.specs.Prelude.{Contains, slice_get}
use Rattle.ms_paths.specs.Flow.{HasEdge}
use Rattle.ms_ir.specs.Func.{Block, FuncState}
use Rattle.ms_ir.specs.Graph.{successors}
use Rattle.ms_ir.specs.SoundFunc.{IsSoundFunc}
use Rattle.ms_flow.specs.Table.{edges_of}
use Rattle.ms_sound.specs.Bytes.{BeginsOnce}

-- the terminator of the block that an edge leaves
pub edge_block : (blocks : List Block) (a b : ℕ) → HasEdge (edges_of blocks) a b → (x : Block) × (slice_get blocks a ≡ Some x) × Contains (successors x.term) b
edge_block [] a b e = absurd (let lt : e.0 < 0 = e.1 in omega arith)
edge_block (x ∷ blocks) zero b e = (x, refl, e)
edge_block (x ∷ blocks) (suc a) b e = edge_block blocks a b e

pub begins_once : (f : FuncState) → IsSoundFunc f → BeginsOnce f
begins_once f sound = record {
  allocas = λ b k x found alloca. (sound.insts b k x found).alloca alloca;
  first = λ a edge. let block = edge_block f.blocks a 0 edge in (sound.terms a block.0 block.1).targets block.2;
}
