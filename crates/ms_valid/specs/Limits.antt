-- A module within the limits of reading, as it stands. Numbers that are written for things without a name are left out: each printing gives its own.
use Rattle.std.specs.Prelude.{◌≡◌, ◌≤◌, ℕ, List, ◌++◌, Some, length, slice_get}
use Rattle.std.specs.List.{flat_map}
use Rattle.ms_ir.specs.declared.names.Name.{Name}
use Rattle.ms_ir.specs.declared.names.Name.TheVariants.{Word, Number, Absent}
use Rattle.ms_ir.specs.declared.inst.IndexTerm.{IndexTerm}
use Rattle.ms_ir.specs.declared.inst.Inst.{Inst}
use Rattle.ms_ir.specs.declared.inst.Inst.TheVariants.{Alloca, Gep, Step, Load, Store, Copy, Call, Bin, Cmp, Select, Cast, Phi}
use Rattle.ms_ir.specs.Func.{Placed, Block, FuncState, insts_at}
use Rattle.ms_ir.specs.Module.{ModuleState}
use Rattle.ms_grammar.specs.Kept.{Each}
use Rattle.ms_grammar.specs.Limits.{IsShort, IsNearOffset}
use Rattle.ms_resolve.specs.Faults.{IsIn}
use Rattle.ms_validity.specs.Faults.{bodies_there}
use Rattle.ms_valid.specs.Func.{names_in}

-- a word has at most 255 bytes
abbrev pub IsShortName : Name → Type 0
IsShortName (Word text) = IsShort text
IsShortName (Number n) = Unit {0}
IsShortName Absent = Unit {0}

abbrev pub IsNearTerm : IndexTerm → Type 0
IsNearTerm t = t.scale ≤ 2147483648

-- an alloca has at most 65,536 bytes, a memcpy at most 4,096; an offset is at most 2^31 bytes either way, and so much an index counts by
abbrev pub IsSmall : Inst → Type 0
IsSmall (Alloca size head tail) = size ≤ 65536
IsSmall (Gep base offset head index tail) = IsNearOffset offset
IsSmall (Step base offset terms head index tail) = IsNearOffset offset × Each IsNearTerm terms
IsSmall (Load ty ptr tail) = Unit {0}
IsSmall (Store ty val ptr tail) = Unit {0}
IsSmall (Copy to from len head tail) = len ≤ 4096
IsSmall (Call callee ret args effects head tail) = Unit {0}
IsSmall (Bin op flags ty a b tail) = Unit {0}
IsSmall (Cmp pred flags ty a b tail) = Unit {0}
IsSmall (Select cond ty a b tail) = Unit {0}
IsSmall (Cast op flags from a to tail) = Unit {0}
IsSmall (Phi ty entries tail) = Unit {0}

abbrev pub insts_of : Block → List Placed
insts_of b = b.insts

-- at most 1,024 blocks and 4,096 instructions, terminators not counted
pub record IsFuncWithin (f : FuncState) : Type 0 where
  pub names : (name : Name) → IsIn (names_in f) name → IsShortName name
  pub blocks : length f.blocks ≤ 1024
  pub insts : length (flat_map insts_of f.blocks) ≤ 4096
  pub small : (b k : ℕ) (x : Placed) → slice_get (insts_at f.blocks b) k ≡ Some x → IsSmall x.inst

-- at most 256 functions with a body
pub record IsModuleWithin (m : ModuleState) : Type 0 where
  pub functions : length (bodies_there m) ≤ 256
  pub names : (name : List ℕ) → IsIn (m.names.funcs ++ m.names.globals) name → IsShort name
  pub bodies : (n : ℕ) (f : FuncState) → slice_get m.bodies n ≡ Some (Some f) → IsFuncWithin f
