-- Types of values, and which of them the lines of instructions and terminators let stand.
use Rattle.std.specs.Prelude.{◌&&◌, ℕ, Bool, true, false, nat_lt, [], Option, Some, None}
use Rattle.std.specs.List.{list_all}
use Rattle.ms_ir.specs.declared.names.Ty.{Ty}
use Rattle.ms_ir.specs.declared.names.Ty.TheVariants.{I1, I8, I16, I32, I64, Ptr}
use Rattle.ms_ir.specs.declared.inst.CastOp.{CastOp}
use Rattle.ms_ir.specs.declared.inst.CastOp.TheVariants.{Zext, Sext, Trunc}
use Rattle.ms_ir.specs.declared.inst.IndexTerm.{IndexTerm}
use Rattle.ms_ir.specs.declared.inst.Inst.{Inst}
use Rattle.ms_ir.specs.declared.inst.Inst.TheVariants.{Alloca, Gep, Step, Load, Store, Copy, Call, Bin, Cmp, Select, Cast, Phi}
use Rattle.ms_ir.specs.declared.inst.Term.{Term}
use Rattle.ms_ir.specs.declared.inst.Term.TheVariants.{Br, CondBr, Ret, Unreachable}

-- the bits of a type's numbers
abbrev pub bits : Ty → ℕ
bits I1 = 1
bits I8 = 8
bits I16 = 16
bits I32 = 32
bits I64 = 64
bits Ptr = 0

abbrev pub is_integer : Ty → Bool
is_integer Ptr = false
is_integer _ = true

abbrev pub is_pointer : Ty → Bool
is_pointer Ptr = true
is_pointer _ = false

-- a type that has a place in memory
abbrev pub is_stored : Ty → Bool
is_stored I1 = false
is_stored Ptr = false
is_stored _ = true

-- a conversion leads to a wider type, or to a narrower one
abbrev pub converts : CastOp → Ty → Ty → Bool
converts Zext from to = nat_lt (bits from) (bits to)
converts Sext from to = nat_lt (bits from) (bits to)
converts Trunc from to = nat_lt (bits to) (bits from)

-- nothing, or numbers of a type
abbrev pub is_given : Option Ty → Bool
is_given None = true
is_given (Some ty) = is_integer ty

-- an index is a number of a type that has a place in memory
abbrev pub is_indexed : IndexTerm → Bool
is_indexed t = is_stored t.ty

-- The line of the instruction lets its types stand. The types of an alloca's and a getelementptr's result are fixed by their form; a select and a phi
-- take each type.
abbrev pub types_stand : Inst → Bool
types_stand (Alloca size head tail) = true
types_stand (Gep base offset head index tail) = true
types_stand (Step base offset terms head index tail) = list_all is_indexed terms
types_stand (Load ty ptr tail) = is_stored ty
types_stand (Store ty val ptr tail) = is_stored ty
types_stand (Copy to from len head tail) = is_pointer to.ty && is_pointer from.ty
types_stand (Call callee ret args effects head tail) = is_given ret
types_stand (Bin op flags ty a b tail) = is_integer ty
types_stand (Cmp pred flags ty a b tail) = is_integer ty
types_stand (Select cond ty a b tail) = true
types_stand (Cast op flags from a to tail) = is_integer from && is_integer to && converts op from to
types_stand (Phi ty entries tail) = true

-- the same for a terminator, which returns nothing or a number
abbrev pub term_stands : Term → Bool
term_stands (Br to tail) = true
term_stands (CondBr cond to other tail) = true
term_stands (Ret None tail) = true
term_stands (Ret (Some given) tail) = is_integer given.0
term_stands (Unreachable tail) = true

abbrev pub is_alloca : Inst → Bool
is_alloca (Alloca size head tail) = true
is_alloca (Gep base offset head index tail) = false
is_alloca (Step base offset terms head index tail) = false
is_alloca (Load ty ptr tail) = false
is_alloca (Store ty val ptr tail) = false
is_alloca (Copy to from len head tail) = false
is_alloca (Call callee ret args effects head tail) = false
is_alloca (Bin op flags ty a b tail) = false
is_alloca (Cmp pred flags ty a b tail) = false
is_alloca (Select cond ty a b tail) = false
is_alloca (Cast op flags from a to tail) = false
is_alloca (Phi ty entries tail) = false

abbrev pub is_phi : Inst → Bool
is_phi (Phi ty entries tail) = true
is_phi (Alloca size head tail) = false
is_phi (Gep base offset head index tail) = false
is_phi (Step base offset terms head index tail) = false
is_phi (Load ty ptr tail) = false
is_phi (Store ty val ptr tail) = false
is_phi (Copy to from len head tail) = false
is_phi (Call callee ret args effects head tail) = false
is_phi (Bin op flags ty a b tail) = false
is_phi (Cmp pred flags ty a b tail) = false
is_phi (Select cond ty a b tail) = false
is_phi (Cast op flags from a to tail) = false

-- a phi has an entry
abbrev pub has_entry : Inst → Bool
has_entry (Phi ty [] tail) = false
has_entry _ = true
