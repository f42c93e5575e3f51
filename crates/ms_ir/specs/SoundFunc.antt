-- A sound function: what an edit, a pass or a session asks of the function that it is handed.
use Rattle.std.specs.Prelude.{◌≡◌, ◌<◌, ◌^◌, ℕ, true, List, Some, slice_get, Contains}
use Rattle.ms_paths.specs.Flow.{IsClosed, IsReducible}
use Rattle.ms_ir.specs.declared.names.Ty.{Ty}
use Rattle.ms_ir.specs.declared.names.Ty.TheVariants.{Ptr}
use Rattle.ms_ir.specs.declared.inst.Val.{Val}
use Rattle.ms_ir.specs.declared.inst.Val.TheVariants.{Num, Local, Global}
use Rattle.ms_ir.specs.declared.inst.Inst.{Inst}
use Rattle.ms_ir.specs.declared.inst.Term.{Term}
use Rattle.ms_ir.specs.Func.{Placed, Block, FuncState, insts_at}
use Rattle.ms_ir.specs.Graph.{graph_of}
use Rattle.ms_ir.specs.Locals.{HasType}
use Rattle.ms_ir.specs.Types.{bits, is_integer, is_alloca, is_phi, has_entry, types_stand, term_stands}
use Rattle.ms_ir.specs.Uses.{Operand, Use, operands_of, term_operands, uses_at, term_uses_at}
use Rattle.ms_ir.specs.Sound.{IsUsedBefore, LeadsToFirst, HasBadEntries}

-- a value of a type: a number of it, below 2 to the number of its bits; a local of the function that has it; and for a pointer a global
abbrev pub IsValueIn : FuncState → Ty → Val → Type 0
IsValueIn f ty (Num own n) = (own ≡ ty) × (is_integer ty ≡ true) × (n < 2 ^ bits ty)
IsValueIn f ty (Local l) = HasType f l ty
IsValueIn f ty (Global g) = ty ≡ Ptr

-- each is a value of the type that is written for it
abbrev pub AreValues : FuncState → List Operand → Type 0
AreValues f operands = (o : Operand) → Contains operands o → IsValueIn f o.ty o.val

-- no path comes to one of these uses of a local before the local's definition
abbrev pub AreBehind : FuncState → List Use → Type 0
AreBehind f uses = (u : Use) → Contains uses u → IsUsedBefore f u → ⊥

-- all instructions before this place of the block are phis
abbrev pub IsAmongPhis : List Block → ℕ → ℕ → Type 0
IsAmongPhis blocks b k = (j : ℕ) (x : Placed) → j < k → slice_get (insts_at blocks b) j ≡ Some x → is_phi x.inst ≡ true

-- An instruction at a place of a block: its types and operands; an alloca stands in the first block, a phi before all that is none, with
-- the edges to its block as its entries, one at least.
pub record IsSoundInst (f : FuncState) (b k : ℕ) (inst : Inst) : Type 0 where
  pub types : types_stand inst ≡ true
  pub operands : AreValues f (operands_of inst)
  pub alloca : is_alloca inst ≡ true → b ≡ 0
  pub phi : is_phi inst ≡ true → IsAmongPhis f.blocks b k
  pub entered : has_entry inst ≡ true
  pub entries : HasBadEntries f.blocks b inst → ⊥
  pub uses : AreBehind f (uses_at f.blocks b k inst)

-- a block's terminator, which does not lead to the first block
pub record IsSoundTerm (f : FuncState) (b : ℕ) (term : Term) : Type 0 where
  pub types : term_stands term ≡ true
  pub operands : AreValues f (term_operands term)
  pub targets : LeadsToFirst term → ⊥
  pub uses : AreBehind f (term_uses_at f.blocks b term)

-- The function has a block, its branches lead to its own blocks, each of its instructions and terminators is sound, and each cycle of reached
-- blocks has a block that every path to a block of the cycle passes.
pub record IsSoundFunc (f : FuncState) : Type 0 where
  pub closed : IsClosed (graph_of f.blocks)
  pub insts : (b k : ℕ) (x : Placed) → slice_get (insts_at f.blocks b) k ≡ Some x → IsSoundInst f b k x.inst
  pub terms : (b : ℕ) (x : Block) → slice_get f.blocks b ≡ Some x → IsSoundTerm f b x.term
  pub reducible : IsReducible (graph_of f.blocks)
