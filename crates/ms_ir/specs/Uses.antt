-- The values that instructions and terminators use, each with the type that is written for it and the place at which it is used.
use Rattle.std.specs.Prelude.{◌≡◌, ℕ, List, [], ◌∷◌, ◌++◌, length, map, Option, Some, None}
use Rattle.std.specs.List.{flat_map}
use Rattle.ms_ir.specs.declared.names.Ty.{Ty}
use Rattle.ms_ir.specs.declared.names.Ty.TheVariants.{I1, Ptr}
use Rattle.ms_ir.specs.declared.inst.Val.{Val}
use Rattle.ms_ir.specs.declared.inst.Arg.{Arg}
use Rattle.ms_ir.specs.declared.inst.Entry.{Entry}
use Rattle.ms_ir.specs.declared.inst.IndexTerm.{IndexTerm}
use Rattle.ms_ir.specs.declared.inst.Inst.{Inst}
use Rattle.ms_ir.specs.declared.inst.Inst.TheVariants.{Alloca, Gep, Step, Load, Store, Copy, Call, Bin, Cmp, Select, Cast, Phi}
use Rattle.ms_ir.specs.declared.inst.Term.{Term}
use Rattle.ms_ir.specs.declared.inst.Term.TheVariants.{Br, CondBr, Ret, Unreachable}
use Rattle.ms_ir.specs.Func.{Block, Placed, insts_at}

-- a value and the type that is written for it
pub record Operand : Type 0 where
  pub ty : Ty
  pub val : Val

abbrev pub of_type : Ty → Val → Operand
of_type ty val = record { ty = ty; val = val }

abbrev pub arg_operand : Arg → Operand
arg_operand a = of_type a.ty a.val

abbrev pub index_operand : IndexTerm → Operand
index_operand t = of_type t.ty t.val

abbrev pub entry_operand : Ty → Entry → Operand
entry_operand ty e = of_type ty e.val

-- the operands of an instruction, in the order of its line
abbrev pub operands_of : Inst → List Operand
operands_of (Alloca size head tail) = []
operands_of (Gep base offset head index tail) = of_type Ptr base ∷ []
operands_of (Step base offset terms head index tail) = of_type Ptr base ∷ map index_operand terms
operands_of (Load ty ptr tail) = of_type Ptr ptr ∷ []
operands_of (Store ty val ptr tail) = of_type ty val ∷ of_type Ptr ptr ∷ []
operands_of (Copy to from len head tail) = arg_operand to ∷ arg_operand from ∷ []
operands_of (Call callee ret args effects head tail) = map arg_operand args
operands_of (Bin op flags ty a b tail) = of_type ty a ∷ of_type ty b ∷ []
operands_of (Cmp pred flags ty a b tail) = of_type ty a ∷ of_type ty b ∷ []
operands_of (Select cond ty a b tail) = of_type I1 cond ∷ of_type ty a ∷ of_type ty b ∷ []
operands_of (Cast op flags from a to tail) = of_type from a ∷ []
operands_of (Phi ty entries tail) = map (entry_operand ty) entries

-- the operands of a terminator
abbrev pub term_operands : Term → List Operand
term_operands (Br to tail) = []
term_operands (CondBr cond if_true if_false tail) = of_type I1 cond ∷ []
term_operands (Ret None tail) = []
term_operands (Ret (Some given) tail) = of_type given.0 given.1 ∷ []
term_operands (Unreachable tail) = []

-- a value that is used before the instruction of a place of a block runs, or at the block's end where the place is behind the last
pub record Use : Type 0 where
  pub block : ℕ
  pub place : ℕ
  pub val : Val

abbrev pub used_at : ℕ → ℕ → Operand → Use
used_at b k o = record { block = b; place = k; val = o.val }

-- a phi uses an entry's value at the end of the entry's block
abbrev pub entry_use : List Block → Entry → Use
entry_use blocks e = record { block = e.from.0; place = length (insts_at blocks e.from.0); val = e.val }

-- the uses of an instruction at a place of a block
abbrev pub uses_at : List Block → ℕ → ℕ → Inst → List Use
uses_at blocks b k (Phi ty entries tail) = map (entry_use blocks) entries
uses_at blocks b k inst = map (used_at b k) (operands_of inst)

-- the uses of a block's terminator
abbrev pub term_uses_at : List Block → ℕ → Term → List Use
term_uses_at blocks b term = map (used_at b (length (insts_at blocks b))) (term_operands term)
