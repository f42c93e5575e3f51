-- Two functions that differ in one instruction, which has no say in what a location's clobber is.
use Rattle.std.specs.Prelude.{◌≡◌, ◌≢◌, ◌↔◌, ℕ, false, List, filter, not, nat_eq}
use Rattle.ms_paths.specs.Flow.{block_at, IsReached}
use Rattle.ms_ir.specs.Inst.{kind_of_inst}
use Rattle.ms_ir.specs.Func.{Placed, FuncState, IsAt, insts_at}
use Rattle.ms_ir.specs.Graph.{graph_of, is_def}
use Rattle.ms_alias.specs.declared.loc.Loc.{Loc}
use Rattle.ms_alias.specs.Meeting.{MayWrite, MayWriteInTurn}
use Rattle.ms_walk.specs.Clobber.{IsTurned, IsTurnedAt}

-- the instructions of a list but for the one of a number
abbrev pub others : ℕ → List Placed → List Placed
others n xs = filter (λ x. not (nat_eq x.number n)) xs

-- The same edges, and in each block the same instructions in the same order, but for the one of number n, which may stand elsewhere or nowhere.
pub record SameBut (f g : FuncState) (n : ℕ) : Type 0 where
  pub next : (b : ℕ) → (block_at (graph_of f.blocks) b).next ≡ (block_at (graph_of g.blocks) b).next
  pub rest : (b : ℕ) → others n (insts_at f.blocks b) ≡ others n (insts_at g.blocks b)

-- the instruction of number n may not write the location, and not in its turn where one is told
pub record IsQuiet (f : FuncState) (n : ℕ) (loc : Loc) : Type 0 where
  pub at_all : MayWrite f n loc → ⊥
  pub in_turn : (q b k : ℕ) → IsReached (graph_of f.blocks) b → IsTurnedAt f b k loc q → MayWriteInTurn f n loc → ⊥
  pub turns_not : IsTurned f loc n → ⊥

-- every other instruction writes the location in both or in neither, and the same ones make its root
pub record WriteSame (f g : FuncState) (n : ℕ) (loc : Loc) : Type 0 where
  pub at_all : (j : ℕ) → j ≢ n → MayWrite f j loc ↔ MayWrite g j loc
  pub in_turn : (j : ℕ) → j ≢ n → MayWriteInTurn f j loc ↔ MayWriteInTurn g j loc
  pub turned : (q : ℕ) → IsTurned f loc q ↔ IsTurned g loc q

-- n has no say in what the clobber of the location is
pub record IsSpared (f g : FuncState) (n : ℕ) (loc : Loc) : Type 0 where
  pub same : SameBut f g n
  pub before : IsQuiet f n loc
  pub after : IsQuiet g n loc
  pub writes : WriteSame f g n loc

-- the instruction of this number is no Def, wherever it stands
abbrev pub IsIdle : FuncState → ℕ → Type 0
IsIdle f n = (b k : ℕ) (x : Placed) → IsAt f.blocks n b k x → is_def (kind_of_inst x.inst) ≡ false
