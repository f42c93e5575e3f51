-- Small instructions, and moments at which the next step has a meaning or none.
use Rattle.std.specs.Prelude.{ℕ, pos, true, List, [], ◌∷◌, Option, Some, None}
use Rattle.ms_ir.specs.declared.names.Ty.{Ty}
use Rattle.ms_ir.specs.declared.names.Ty.TheVariants.{I1, I8, I32, Ptr}
use Rattle.ms_ir.specs.declared.inst.Val.TheVariants.{Num}
use Rattle.ms_ir.specs.declared.inst.Arg.{Arg}
use Rattle.ms_ir.specs.declared.inst.CastOp.{CastOp}
use Rattle.ms_ir.specs.declared.inst.Op.TheVariants.{Add}
use Rattle.ms_ir.specs.declared.inst.Pred.TheVariants.{Ult}
use Rattle.ms_ir.specs.declared.inst.Inst.{Inst}
use Rattle.ms_ir.specs.declared.inst.Inst.TheVariants.{Alloca, Step, Load, Store, Copy, Call, Bin, Cmp, Select, Cast, Phi}
use Rattle.ms_ir.specs.declared.inst.Term.{Term}
use Rattle.ms_ir.specs.declared.inst.Term.TheVariants.{Br, CondBr, Ret, Unreachable}
use Rattle.ms_ir.specs.Func.{Placed, FuncState}
use Rattle.ms_meaning.specs.Values.{Byte}
use Rattle.ms_meaning.specs.States.{State, begun}
use Rattle.ms_meaning.specs.Samples.{local, to, no_flags, all, giving, index, at_first, block, param, func, adds_input, strides_input}

-- instructions and terminators with a type to be judged
abbrev pub load_of : Ty → Inst
load_of ty = Load ty (local 0) []

abbrev pub step_of : Ty → Inst
step_of ty = Step (local 0) (pos 0) (index ty 1 4 ∷ []) [] [] []

abbrev pub store_of : Ty → Inst
store_of ty = Store ty (local 1) (local 0) []

abbrev pub argument : Ty → ℕ → Arg
argument ty k = record { ty = ty; val = local k; keeps = true; text = [] }

abbrev pub copy_from : Ty → Inst
copy_from ty = Copy (argument Ptr 0) (argument ty 1) 4 [] []

abbrev pub call_giving : Option Ty → Inst
call_giving ret = Call (record { 0 = 0 }) ret (argument Ptr 0 ∷ []) all [] []

abbrev pub sum_of : Ty → Inst
sum_of ty = Bin Add no_flags ty (local 0) (local 1) []

abbrev pub comparison_of : Ty → Inst
comparison_of ty = Cmp Ult no_flags ty (local 0) (local 1) []

abbrev pub choice_of : Ty → Inst
choice_of ty = Select (local 0) ty (local 1) (local 2) []

abbrev pub cast_by : CastOp → Ty → Ty → Inst
cast_by op from to = Cast op no_flags from (local 0) to []

abbrev pub return_of : Ty → Term
return_of ty = Ret (Some (ty, local 0)) []

-- a phi without an entry, and one with
abbrev pub empty_phi : Inst
empty_phi = Phi I8 [] []

abbrev pub full_phi : Inst
full_phi = Phi I8 (at_first 5 ∷ []) []

-- the load of a number of four bytes is about to be run, in an object of these bytes
abbrev pub about_to_load : List Byte → State
about_to_load object = begun (adds_input object)

-- a getelementptr with such an index is about to be run, at the beginning of an object
abbrev pub about_to_step : ℕ → State
about_to_step n = begun (strides_input 0 n)

-- a function that is not to be run
abbrev pub ends : FuncState
ends = func (param Ptr ∷ []) (block [] (Unreachable []) ∷ [])

-- Functions in which one thing is wrong.

-- an operand is made behind its use
abbrev pub uses_early : FuncState
uses_early = func (param I8 ∷ [])
    (block (giving 0 1 (Bin Add no_flags I8 (local 0) (local 2) []) ∷ giving 1 2 (Bin Add no_flags I8 (local 0) (local 0) []) ∷ []) (Ret None []) ∷ [])

-- an operand of another type
abbrev pub mistyped : FuncState
mistyped = func (param I32 ∷ []) (block [] (return_of I8) ∷ [])

-- a number that its type does not have
abbrev pub great_number : FuncState
great_number = func [] (block [] (Ret (Some (I8, Num I8 256)) []) ∷ [])

-- a branch to the first block, and one to a block that is not there
abbrev pub branches_to : ℕ → FuncState
branches_to b = func [] (block [] (Br (to b) []) ∷ [])

-- these instructions in a second block
abbrev pub behind_branch : Term → List Placed → FuncState
behind_branch term insts = func (param I1 ∷ []) (block [] term ∷ block insts (Ret None []) ∷ [])

abbrev pub late_alloca : FuncState
late_alloca = behind_branch (Br (to 1) []) (giving 0 1 (Alloca 1 [] []) ∷ [])

-- a phi behind what is none
abbrev pub late_phi : FuncState
late_phi = behind_branch (Br (to 1) []) (giving 0 1 (Alloca 1 [] []) ∷ giving 1 2 full_phi ∷ [])

-- a phi with one entry for two edges
abbrev pub short_phi : FuncState
short_phi = behind_branch (CondBr (local 0) (to 1) (to 1) []) (giving 0 1 full_phi ∷ [])
