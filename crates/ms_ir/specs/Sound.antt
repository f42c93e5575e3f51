-- What keeps a function from being sound: a value of another type, edges that do not fit, a use before the definition.
use Rattle.std.specs.Prelude.{◌≡◌, ◌≢◌, ◌⊎◌, ◌==◌, ◌<◌, ℕ, List, [], ◌∷◌, length, map, Some, slice_get, slice_index_or, Contains, filter}
use Rattle.ms_paths.specs.Flow.{IsPath, IsMet}
use Rattle.ms_ir.specs.declared.names.Ty.{Ty}
use Rattle.ms_ir.specs.declared.names.LocalNo.{LocalNo}
use Rattle.ms_ir.specs.declared.inst.Val.{Val}
use Rattle.ms_ir.specs.declared.inst.Val.TheVariants.{Num, Local, Global}
use Rattle.ms_ir.specs.declared.inst.Entry.{Entry}
use Rattle.ms_ir.specs.declared.inst.Inst.{Inst}
use Rattle.ms_ir.specs.declared.inst.Inst.TheVariants.{Phi}
use Rattle.ms_ir.specs.declared.inst.Term.{Term}
use Rattle.ms_ir.specs.Func.{Block, FuncState, Placed, insts_at, no_block}
use Rattle.ms_ir.specs.Graph.{graph_of, successors}
use Rattle.ms_ir.specs.Locals.{HasType, IsGiver}
use Rattle.ms_ir.specs.Uses.{Operand, Use}

-- the operand is a local of another type than the one written
abbrev pub HasOtherType : FuncState → Operand → Type 0
HasOtherType f o = (l : LocalNo) × (ty : Ty) × (o.val ≡ Local l) × HasType f l ty × (ty ≢ o.ty)

-- a path comes to the use of a local before the local's definition; parameters come first always
pub record IsPathBefore (f : FuncState) (u : Use) (path : List ℕ) : Type 0 where
  pub local : LocalNo
  pub is_local : u.val ≡ Local local
  pub block : ℕ
  pub place : ℕ
  pub giver : Placed
  pub gives : IsGiver f.blocks local block place giver
  pub path_is : IsPath (graph_of f.blocks) u.block path
  pub not_met : IsMet (graph_of f.blocks) giver.number u.block u.place path → ⊥

abbrev pub IsUsedBefore : FuncState → Use → Type 0
IsUsedBefore f u = (path : List ℕ) × IsPathBefore f u path

-- a branch leads to the first block
abbrev pub LeadsToFirst : Term → Type 0
LeadsToFirst t = Contains (successors t) 0

-- how often a number stands in a list
abbrev pub times_in : ℕ → List ℕ → ℕ
times_in n xs = length (filter (λ x. x == n) xs)

abbrev pub from_of : Entry → ℕ
from_of e = e.from.0

-- how many edges lead from a block to another
abbrev pub edges_between : List Block → ℕ → ℕ → ℕ
edges_between blocks a b = times_in b (successors (slice_index_or blocks a no_block).term)

-- the entries of a phi are not the edges that lead to its block, reached or not, each as often as it is there
abbrev pub HasOtherEdges : List Block → ℕ → List Entry → Type 0
HasOtherEdges blocks b entries = (a : ℕ) × (times_in a (map from_of entries) ≢ edges_between blocks a b)

-- two entries of a phi for one block have different values
abbrev pub HasTwoValues : List Entry → Type 0
HasTwoValues entries = (j k : ℕ) × (d e : Entry) × (slice_get entries j ≡ Some d) × (slice_get entries k ≡ Some e) × (d.from ≡ e.from) × (d.val ≢ e.val)

-- the edges of a phi do not fit
abbrev pub HasBadEntries : List Block → ℕ → Inst → Type 0
HasBadEntries blocks b (Phi ty entries tail) = HasOtherEdges blocks b entries ⊎ HasTwoValues entries
HasBadEntries blocks b _ = ⊥
