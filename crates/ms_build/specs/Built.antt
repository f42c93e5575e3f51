-- The form of a function.
use Rattle.std.specs.Prelude.{◌≡◌, ◌≤◌, ◌⊎◌, ℕ, true, false, List, length, Option, Some, None, slice_get, slice_index_or}
use Rattle.ms_paths.specs.Flow.{Block as Run, IsReached, IsNeeded, IsAnswer}
use Rattle.ms_flow.specs.declared.sources.Source.{Source}
use Rattle.ms_flow.specs.Table.{edges_of}
use Rattle.ms_flow.specs.Flow.{sources_of}
use Rattle.ms_ir.specs.Func.{Placed, Block, FuncState, insts_at}
use Rattle.ms_ir.specs.Graph.{graph_of, defs_of}
use Rattle.ms_form.specs.declared.access.Access.{Access}
use Rattle.ms_form.specs.Form.{FormState}
use Rattle.ms_build.specs.Accesses.{event_of, has_phi, enters_at, operand_at, defining_at, entering_at}
use Rattle.ms_build.specs.Consistent.{IsConsistent}
use Rattle.ms_build.specs.Filled.{last_of, before_at, HasAccessAt}

-- A consistent form of a function: its blocks have their last Defs, phis and entries stand at reached blocks alone, slots past
-- the edges to a block are empty, and each instruction of a reached block names the access before it.
pub record IsFilled (f : FuncState) (g : List Run) (form : FormState) : Type 0 where
  pub consistent : IsConsistent g form
  pub phis : (b : ℕ) → has_phi form b ≡ true → IsReached g b
  pub no_entering : (b : ℕ) → (IsReached g b → ⊥) ⊎ (has_phi form b ≡ true) → enters_at form b ≡ None
  pub no_operand : (b slot : ℕ) → (has_phi form b ≡ false) ⊎ (length (sources_of g b) ≤ slot) → operand_at form b slot ≡ None
  pub defining : (b k : ℕ) (x : Placed) → IsReached g b → HasAccessAt f.blocks b k x → defining_at form x.number ≡ before_at f.blocks b k (entering_at form b)
  pub no_defining : (i : ℕ) → ((b k : ℕ) (x : Placed) → IsReached g b → HasAccessAt f.blocks b k x → x.number ≡ i → ⊥) → defining_at form i ≡ None
  pub lasts : (b : ℕ) → slice_index_or form.lasts b None ≡ last_of f.blocks b

-- an entry is the answer at a place, for all Defs
abbrev pub IsAnswered : List Block → ℕ → ℕ → Option Access → Type 0
IsAnswered blocks b k None = ⊥
IsAnswered blocks b k (Some a) = IsAnswer (graph_of blocks) (defs_of blocks) b k (event_of a)

-- The blocks with a phi are those that need one for all Defs. Of reached blocks, what enters each other block, what comes
-- over each edge to a block with a phi, and what each instruction names are the answers there; all other entries are empty.
-- Each block, reached or not, has its last Def.
pub record IsFormOf (f : FuncState) (form : FormState) : Type 0 where
  pub phis : IsNeeded (graph_of f.blocks) (defs_of f.blocks) (has_phi form)
  pub entering : (b : ℕ) → IsReached (graph_of f.blocks) b → has_phi form b ≡ false → IsAnswered f.blocks b 0 (enters_at form b)
  pub no_entering : (b : ℕ) → (IsReached (graph_of f.blocks) b → ⊥) ⊎ (has_phi form b ≡ true) → enters_at form b ≡ None
  pub operands : (b slot : ℕ) (e : Source) → has_phi form b ≡ true → slice_get (sources_of (edges_of f.blocks) b) slot ≡ Some e
      → IsAnswered f.blocks e.from (length (insts_at f.blocks e.from)) (operand_at form b slot)
  pub no_operand : (b slot : ℕ) → (has_phi form b ≡ false) ⊎ (length (sources_of (edges_of f.blocks) b) ≤ slot) → operand_at form b slot ≡ None
  pub defining : (b k : ℕ) (x : Placed) → IsReached (graph_of f.blocks) b → HasAccessAt f.blocks b k x → IsAnswered f.blocks b k (defining_at form x.number)
  pub no_defining : (i : ℕ) → ((b k : ℕ) (x : Placed) → IsReached (graph_of f.blocks) b → HasAccessAt f.blocks b k x → x.number ≡ i → ⊥) → defining_at form i ≡ None
  pub lasts : (b : ℕ) → slice_index_or form.lasts b None ≡ last_of f.blocks b
