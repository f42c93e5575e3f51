-- Which lines have a fault in their types, in their edges, or in the order of definitions and uses. The names have no fault any more.
use Rattle.std.specs.Prelude.{◌≡◌, ◌≢◌, ◌⊎◌, ℕ, List, [], ◌∷◌, Option, Some, None, length, map, take, slice_get, if◌then◌else◌}
use Rattle.std.specs.List.{flat_map}
use Rattle.ms_paths.specs.Flow.{IsReducible}
use Rattle.ms_ir.specs.declared.names.Ty.{Ty}
use Rattle.ms_ir.specs.declared.names.Mark.{Mark}
use Rattle.ms_ir.specs.declared.inst.Arg.{Arg}
use Rattle.ms_ir.specs.declared.inst.Inst.{Inst}
use Rattle.ms_ir.specs.declared.inst.Inst.TheVariants.{Alloca, Gep, Step, Load, Store, Copy, Call, Bin, Cmp, Select, Cast, Phi}
use Rattle.ms_ir.specs.declared.inst.Term.{Term}
use Rattle.ms_ir.specs.declared.inst.Term.TheVariants.{Ret}
use Rattle.ms_ir.specs.declared.module.Sig.{Sig}
use Rattle.ms_ir.specs.Func.{Placed, Block, FuncState, insts_at}
use Rattle.ms_ir.specs.Graph.{graph_of}
use Rattle.ms_ir.specs.Module.{ModuleState}
use Rattle.ms_ir.specs.Uses.{Operand, Use, operands_of, term_operands, uses_at, term_uses_at}
use Rattle.ms_ir.specs.Sound.{HasOtherType, IsUsedBefore, LeadsToFirst, HasBadEntries}
use Rattle.ms_resolve.specs.Shape.{InstLine, BlockLines, FuncLines, ItemLines}
use Rattle.ms_resolve.specs.Used.{values_of, term_values, global_of, callee_of}
use Rattle.ms_resolve.specs.Faults.{IsIn}
use Rattle.ms_resolve.specs.Module.{funcs_of}

abbrev pub body_there : Option FuncState → List FuncState
body_there None = []
body_there (Some f) = f ∷ []

-- the bodies of a module, in the order of its functions
abbrev pub bodies_there : ModuleState → List FuncState
bodies_there m = flat_map body_there m.bodies

-- a function with a body: its lines, and what they are
pub record IsBody (items : List ItemLines) (m : ModuleState) (lines : FuncLines) (f : FuncState) : Type 0 where
  pub place : ℕ
  pub lines_are : slice_get (funcs_of items) place ≡ Some lines
  pub body_is : slice_get (bodies_there m) place ≡ Some f

-- an instruction with its line
pub record HasInst (lines : FuncLines) (f : FuncState) (n b k : ℕ) (line : InstLine) (x : Placed) : Type 0 where
  pub block : BlockLines
  pub block_is : slice_get lines.blocks b ≡ Some block
  pub line_is : slice_get block.insts k ≡ Some line
  pub inst_is : slice_get (insts_at f.blocks b) k ≡ Some x
  pub on : line.line ≡ n

-- a terminator with its line
pub record HasTerm (lines : FuncLines) (f : FuncState) (n b : ℕ) (block : BlockLines) (x : Block) : Type 0 where
  pub block_is : slice_get lines.blocks b ≡ Some block
  pub term_is : slice_get f.blocks b ≡ Some x
  pub on : block.end.line ≡ n

abbrev pub type_of_arg : Arg → Ty
type_of_arg a = a.ty

abbrev pub type_of_mark : Mark → Ty
type_of_mark m = m.ty

-- the types of arguments are those of the parameters; more may follow where the function is variadic
abbrev pub ArgsFit : Sig → List Arg → Type 0
ArgsFit sig args =
    (if sig.variadic then take (length sig.params) (map type_of_arg args) else map type_of_arg args) ≡ map type_of_mark sig.params

-- a call of a function whose line says otherwise
abbrev pub CallsOtherwise : ModuleState → Inst → Type 0
CallsOtherwise m (Call callee ret args effects head tail) =
    (sig : Sig) × (slice_get m.sigs callee.0 ≡ Some sig) × ((ret ≢ sig.ret) ⊎ (ArgsFit sig args → ⊥))
CallsOtherwise m (Alloca size head tail) = ⊥
CallsOtherwise m (Gep base offset head index tail) = ⊥
CallsOtherwise m (Step base offset terms head index tail) = ⊥
CallsOtherwise m (Load ty ptr tail) = ⊥
CallsOtherwise m (Store ty val ptr tail) = ⊥
CallsOtherwise m (Copy to from len head tail) = ⊥
CallsOtherwise m (Bin op flags ty a b tail) = ⊥
CallsOtherwise m (Cmp pred flags ty a b tail) = ⊥
CallsOtherwise m (Select cond ty a b tail) = ⊥
CallsOtherwise m (Cast op flags from a to tail) = ⊥
CallsOtherwise m (Phi ty entries tail) = ⊥

abbrev pub given_type : {V : Type 0} → Option (Ty × V) → Option Ty
given_type None = None
given_type (Some given) = Some given.0

-- a return of another type than the function's
abbrev pub ReturnsOtherwise : FuncState → Term → Type 0
ReturnsOtherwise f (Ret given tail) = given_type given ≢ f.ret
ReturnsOtherwise f _ = ⊥

-- a line of a function has a fault in its types
pub data HasTypeFaultIn (m : ModuleState) (lines : FuncLines) (f : FuncState) (n : ℕ) : Type 0 where
  operand : (b k : ℕ) (line : InstLine) (x : Placed) (o : Operand) → HasInst lines f n b k line x → IsIn (operands_of x.inst) o → HasOtherType f o → HasTypeFaultIn m lines f n
  func_operand : (b k : ℕ) (line : InstLine) (x : Placed) (name : List ℕ) → HasInst lines f n b k line x → IsIn (flat_map global_of (values_of line.inst)) name → IsIn m.names.funcs name → HasTypeFaultIn m lines f n
  global_called : (b k : ℕ) (line : InstLine) (x : Placed) (name : List ℕ) → HasInst lines f n b k line x → IsIn (callee_of line.inst) name → IsIn m.names.globals name → HasTypeFaultIn m lines f n
  call : (b k : ℕ) (line : InstLine) (x : Placed) (name : List ℕ) → HasInst lines f n b k line x → IsIn (callee_of line.inst) name → IsIn m.names.funcs name → CallsOtherwise m x.inst → HasTypeFaultIn m lines f n
  term_operand : (b : ℕ) (block : BlockLines) (x : Block) (o : Operand) → HasTerm lines f n b block x → IsIn (term_operands x.term) o → HasOtherType f o → HasTypeFaultIn m lines f n
  func_returned : (b : ℕ) (block : BlockLines) (x : Block) (name : List ℕ) → HasTerm lines f n b block x → IsIn (flat_map global_of (term_values block.end.term)) name → IsIn m.names.funcs name → HasTypeFaultIn m lines f n
  returned : (b : ℕ) (block : BlockLines) (x : Block) → HasTerm lines f n b block x → ReturnsOtherwise f x.term → HasTypeFaultIn m lines f n

-- a branch to the first block, or a phi whose entries are not its block's edges
pub data HasEdgeFaultIn (lines : FuncLines) (f : FuncState) (n : ℕ) : Type 0 where
  branch : (b : ℕ) (block : BlockLines) (x : Block) → HasTerm lines f n b block x → LeadsToFirst x.term → HasEdgeFaultIn lines f n
  phi : (b k : ℕ) (line : InstLine) (x : Placed) → HasInst lines f n b k line x → HasBadEntries f.blocks b x.inst → HasEdgeFaultIn lines f n

-- a use to which some path comes before the definition
pub data HasOrderFaultIn (lines : FuncLines) (f : FuncState) (n : ℕ) : Type 0 where
  inst : (b k : ℕ) (line : InstLine) (x : Placed) (u : Use) → HasInst lines f n b k line x → IsIn (uses_at f.blocks b k x.inst) u → IsUsedBefore f u → HasOrderFaultIn lines f n
  term : (b : ℕ) (block : BlockLines) (x : Block) (u : Use) → HasTerm lines f n b block x → IsIn (term_uses_at f.blocks b x.term) u → IsUsedBefore f u → HasOrderFaultIn lines f n

-- a line of the module has a fault
pub record HasTypeFault (items : List ItemLines) (m : ModuleState) (n : ℕ) : Type 0 where
  pub lines : FuncLines
  pub f : FuncState
  pub body : IsBody items m lines f
  pub fault : HasTypeFaultIn m lines f n

pub record HasEdgeFault (items : List ItemLines) (m : ModuleState) (n : ℕ) : Type 0 where
  pub lines : FuncLines
  pub f : FuncState
  pub body : IsBody items m lines f
  pub fault : HasEdgeFaultIn lines f n

pub record HasOrderFault (items : List ItemLines) (m : ModuleState) (n : ℕ) : Type 0 where
  pub lines : FuncLines
  pub f : FuncState
  pub body : IsBody items m lines f
  pub fault : HasOrderFaultIn lines f n

-- the function of this number has a cycle of reached blocks without a block that every path to a block of the cycle passes
pub record IsIrreducible (m : ModuleState) (n : ℕ) : Type 0 where
  pub f : FuncState
  pub body : slice_get m.bodies n ≡ Some (Some f)
  pub irreducible : IsReducible (graph_of f.blocks) → ⊥
