-- Clobbers: for a place and a location, the last instruction on every path that may write the location, with phis where those need one.
-- What is called so is LLVM's MemorySSA document's clobbering access.
use Rattle.std.specs.Prelude.{◌≡◌, ◌≢◌, ◌⊎◌, ◌↔◌, ℕ, Bool, IsTrue}
use Rattle.ms_paths.specs.Flow.{Event, Of, IsReached, IsAnswer, LiesOnEvery, and_one}
use Rattle.ms_ir.specs.Func.{Placed, FuncState, IsAt}
use Rattle.ms_ir.specs.Graph.{graph_of}
use Rattle.ms_alias.specs.declared.loc.Loc.{Loc}
use Rattle.ms_alias.specs.declared.loc.Loc.TheVariants.{Bytes, ReadBy}
use Rattle.ms_alias.specs.Roots.{IsTurnedBy}
use Rattle.ms_alias.specs.Meeting.{MayWriteInTurn, MayWrite}

-- the test holds of exactly the instructions that may write the location
abbrev pub AreWriters : FuncState → Loc → (ℕ → Bool) → Type 0
AreWriters f loc E = (j : ℕ) → IsTrue (E j) ↔ MayWrite f j loc

-- the same as long as the location's root is not made anew
abbrev pub AreWritersInTurn : FuncState → Loc → (ℕ → Bool) → Type 0
AreWritersInTurn f loc E = (j : ℕ) → IsTrue (E j) ↔ MayWriteInTurn f j loc

-- before place k of block b, e is the last instruction that may write the location
pub record IsLastWriter (f : FuncState) (b k : ℕ) (loc : Loc) (e : Event) : Type 0 where
  pub writes : ℕ → Bool
  pub writers : AreWriters f loc writes
  pub answer : IsAnswer (graph_of f.blocks) writes b k e

-- the same before instruction i, wherever it stands
abbrev pub IsLastWriterBefore : FuncState → ℕ → Loc → Event → Type 0
IsLastWriterBefore f i loc e = (b k : ℕ) (x : Placed) → IsAt f.blocks i b k x → IsLastWriter f b k loc e

-- The location is bytes at a turning root, which instruction q makes. What an instruction reads is counted from that instruction's own pointers, which may
-- still be those of a turn before.
abbrev pub IsTurned : FuncState → Loc → ℕ → Type 0
IsTurned f (Bytes root from len) q = IsTurnedBy f root q
IsTurned f (ReadBy j) q = ⊥

-- q alone makes it, and lies on every path to place k of block b
pub record IsTurnedAt (f : FuncState) (b k : ℕ) (loc : Loc) (q : ℕ) : Type 0 where
  pub turned : IsTurned f loc q
  pub only : (p : ℕ) → IsTurned f loc p → p ≡ q
  pub passed : LiesOnEvery (graph_of f.blocks) q b k

-- before place k of block b, e is the last of q and the instructions that may write the location in q's turn
pub record IsLastInTurn (f : FuncState) (q b k : ℕ) (loc : Loc) (e : Event) : Type 0 where
  pub writes : ℕ → Bool
  pub writers : AreWritersInTurn f loc writes
  pub answer : IsAnswer (graph_of f.blocks) (and_one q writes) b k e

-- nothing turns the location's root
abbrev pub IsClobberAnywhere : FuncState → ℕ → ℕ → Loc → Event → Type 0
IsClobberAnywhere f b k loc e = ((q : ℕ) → IsTurnedAt f b k loc q → ⊥) × IsLastWriter f b k loc e

-- instruction q does: while the root stays, what has another range of the same root does not write the location; where nothing writes it since q,
-- it is what may write the location before q
abbrev pub IsClobberInTurn : FuncState → ℕ → ℕ → Loc → Event → Type 0
IsClobberInTurn f b k loc e = (q : ℕ) × IsTurnedAt f b k loc q
    × ((IsLastInTurn f q b k loc e × (e ≢ Of q)) ⊎ (IsLastInTurn f q b k loc (Of q) × IsLastWriterBefore f q loc e))

-- the clobber of the location before place k of block b
abbrev pub IsClobberAt : FuncState → ℕ → ℕ → Loc → Event → Type 0
IsClobberAt f b k loc e = IsClobberAnywhere f b k loc e ⊎ IsClobberInTurn f b k loc e

-- the same before instruction i, which stands in a reached block
pub record IsClobber (f : FuncState) (i : ℕ) (loc : Loc) (e : Event) : Type 0 where
  pub block : ℕ
  pub place : ℕ
  pub inst : Placed
  pub at : IsAt f.blocks i block place inst
  pub reached : IsReached (graph_of f.blocks) block
  pub clobber : IsClobberAt f block place loc e
