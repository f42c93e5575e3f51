-- What lies behind an instruction on every path, and which instructions end a search within its turn.
use Rattle.std.specs.Prelude.{◌≡◌, ◌↔◌, ◌<◌, ◌≤◌, ◌==◌, ℕ, Bool, false, nat_lt, if◌then◌else◌, List, length, Some, slice_get, slice_index_or, IsTrue}
use Rattle.ms_paths.specs.Flow.{IsReached, LiesOnEvery}
use Rattle.ms_ir.specs.Func.{Placed, Block, FuncState, IsAt, insts_at}
use Rattle.ms_ir.specs.Graph.{graph_of, defs_of}
use Rattle.ms_alias.specs.declared.loc.Loc.{Loc}
use Rattle.ms_alias.specs.Tables.{AliasState}
use Rattle.ms_alias.specs.Tests.{may_write_in_turn_by}

abbrev pub is_marked : List Bool → ℕ → Bool
is_marked marks k = slice_index_or marks k false

-- marked are the instructions, and the blocks, to which every path passes q before it comes to them; of blocks that are reached
pub record IsBehind (f : FuncState) (q : ℕ) (insts starts : List Bool) : Type 0 where
  pub insts_are : (i b k : ℕ) (x : Placed) → IsReached (graph_of f.blocks) b → IsAt f.blocks i b k x → IsTrue (is_marked insts i) ↔ LiesOnEvery (graph_of f.blocks) q b k
  pub starts_are : (b : ℕ) → IsReached (graph_of f.blocks) b → IsTrue (is_marked starts b) ↔ LiesOnEvery (graph_of f.blocks) q b 0

-- place k of block b is behind place of block home, where the starts of these blocks are
abbrev pub is_past : List Bool → ℕ → ℕ → ℕ → ℕ → Bool
is_past starts home place b k = if b == home then nat_lt place k else is_marked starts b

-- the instructions of block b before place n are marked as they stand, and others are as they were
pub record AreMarked (blocks : List Block) (starts : List Bool) (home place b n : ℕ) (old new : List Bool) : Type 0 where
  pub size : length new ≡ length old
  pub here : (k : ℕ) (x : Placed) → slice_get (insts_at blocks b) k ≡ Some x → k < n → is_marked new x.number ≡ is_past starts home place b k
  pub others : (c k : ℕ) (x : Placed) → slice_get (insts_at blocks c) k ≡ Some x → (c ≡ b → ⊥) → is_marked new x.number ≡ is_marked old x.number

-- so those of the first blocks, and no others
pub record AreMarkedTo (blocks : List Block) (starts : List Bool) (home place n : ℕ) (marks : List Bool) : Type 0 where
  pub each : (b k : ℕ) (x : Placed) → slice_get (insts_at blocks b) k ≡ Some x → b < n → is_marked marks x.number ≡ is_past starts home place b k
  pub rest : (b k : ℕ) (x : Placed) → slice_get (insts_at blocks b) k ≡ Some x → n ≤ b → is_marked marks x.number ≡ false

-- behind q what may write the location in q's turn, elsewhere every Def
unfoldable pub ends_turn : FuncState → AliasState → Loc → List Bool → ℕ → Bool
ends_turn f a loc insts i = if is_marked insts i then may_write_in_turn_by f a loc i else defs_of f.blocks i
