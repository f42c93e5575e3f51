-- Small functions and their runs.
use Rattle.std.specs.Prelude.{ℕ, pos, true, false, List, [], ◌∷◌, Some, None}
use Rattle.ms_ir.specs.declared.names.Name.TheVariants.{Absent}
use Rattle.ms_ir.specs.declared.names.Ty.{Ty}
use Rattle.ms_ir.specs.declared.names.Ty.TheVariants.{I1, I8, I32, I64, Ptr}
use Rattle.ms_ir.specs.declared.names.BlockNo.{BlockNo}
use Rattle.ms_ir.specs.declared.names.Param.{Param}
use Rattle.ms_ir.specs.declared.inst.Val.{Val}
use Rattle.ms_ir.specs.declared.inst.Val.TheVariants.{Num, Local}
use Rattle.ms_ir.specs.declared.inst.Flags.{Flags}
use Rattle.ms_ir.specs.declared.inst.Effects.{Effects}
use Rattle.ms_ir.specs.declared.inst.Entry.{Entry}
use Rattle.ms_ir.specs.declared.inst.IndexTerm.{IndexTerm}
use Rattle.ms_ir.specs.declared.inst.Op.TheVariants.{Add}
use Rattle.ms_ir.specs.declared.inst.Inst.{Inst}
use Rattle.ms_ir.specs.declared.inst.Inst.TheVariants.{Alloca, Step, Load, Store, Call, Bin, Phi}
use Rattle.ms_ir.specs.declared.inst.Term.{Term}
use Rattle.ms_ir.specs.declared.inst.Term.TheVariants.{Br, CondBr, Ret}
use Rattle.ms_ir.specs.Func.{Placed, Block, FuncState}
use Rattle.ms_meaning.specs.Values.{Byte, Is, Number, Pointer}
use Rattle.ms_meaning.specs.States.{Answer, Input, Made}

abbrev pub local : ℕ → Val
local k = Local (record { 0 = k })

abbrev pub to : ℕ → BlockNo
to b = record { 0 = b }

abbrev pub no_flags : Flags
no_flags = record { nsw = false; nuw = false; exact = false; disjoint = false; nneg = false; samesign = false }

-- one flag each
abbrev pub nuw : Flags
nuw = record no_flags { nuw = true }

abbrev pub nsw : Flags
nsw = record no_flags { nsw = true }

abbrev pub exact : Flags
exact = record no_flags { exact = true }

abbrev pub disjoint : Flags
disjoint = record no_flags { disjoint = true }

abbrev pub nneg : Flags
nneg = record no_flags { nneg = true }

abbrev pub samesign : Flags
samesign = record no_flags { samesign = true }

-- an instruction that gives this local, and one that gives none
abbrev pub giving : ℕ → ℕ → Inst → Placed
giving n k inst = record { number = n; result = Some (record { 0 = k }); name = Absent; inst = inst }

abbrev pub plain : ℕ → Inst → Placed
plain n inst = record { number = n; result = None; name = Absent; inst = inst }

abbrev pub block : List Placed → Term → Block
block insts term = record { name = Absent; insts = insts; term = term }

abbrev pub param : Ty → Param
param ty = record { ty = ty; text = []; name = Absent }

abbrev pub func : List Param → List Block → FuncState
func params blocks = record { name = []; head = []; ret = None; params = params; tail = []; blocks = blocks; made = 0; locals = 0; spare = 0 }

-- adds a number to one in memory
abbrev pub adds : FuncState
adds = func (param Ptr ∷ param I32 ∷ [])
    (block (giving 0 2 (Load I32 (local 0) []) ∷ giving 1 3 (Bin Add no_flags I32 (local 2) (local 1) []) ∷ plain 2 (Store I32 (local 3) (local 0) []) ∷ [])
    (Ret (Some (I32, local 3)) []) ∷ [])

-- with a pointer to the first of these bytes, and 41
abbrev pub adds_input : List Byte → Input
adds_input object = record { args = Pointer 0 (pos 0) ∷ Number I32 41 ∷ []; objects = object ∷ []; answers = [] }

-- an index that is a local, and so many bytes for each
abbrev pub index : Ty → ℕ → ℕ → IndexTerm
index ty k scale = record { val = local k; ty = ty; scale = scale }

-- loads the byte that stands behind a pointer by 4, twice an index, and another index
abbrev pub strides : FuncState
strides = func (param Ptr ∷ param I8 ∷ param I64 ∷ [])
    (block (giving 0 3 (Step (local 0) (pos 4) (index I8 1 2 ∷ index I64 2 1 ∷ []) [] [] []) ∷ giving 1 4 (Load I8 (local 3) []) ∷ [])
    (Ret (Some (I8, local 4)) []) ∷ [])

-- with a pointer to the first of four bytes, and these indices
abbrev pub strides_input : ℕ → ℕ → Input
strides_input m n = record { args = Pointer 0 (pos 0) ∷ Number I8 m ∷ Number I64 n ∷ []; objects = (Is 1 ∷ Is 2 ∷ Is 3 ∷ Is 4 ∷ []) ∷ []; answers = [] }

-- from block 0 a number, from block 1 a local
abbrev pub at_first : ℕ → Entry
at_first n = record { val = Num I8 n; from = to 0 }

abbrev pub then_on : ℕ → Entry
then_on k = record { val = local k; from = to 1 }

-- a loop that exchanges two numbers, and then ends with the first where the flag is not set
abbrev pub exchanges : FuncState
exchanges = func (param I1 ∷ [])
    (block [] (Br (to 1) [])
    ∷ block (giving 0 1 (Phi I8 (at_first 5 ∷ then_on 2 ∷ []) []) ∷ giving 1 2 (Phi I8 (at_first 7 ∷ then_on 1 ∷ []) []) ∷ [])
    (CondBr (local 0) (to 1) (to 2) [])
    ∷ block [] (Ret (Some (I8, local 1)) []) ∷ [])

abbrev pub flag : ℕ → Input
flag n = record { args = Number I1 n ∷ []; objects = []; answers = [] }

abbrev pub reads : Effects
reads = record { arg_read = true; arg_write = false; other_read = false; other_write = false; hidden_read = false; hidden_write = false }

abbrev pub all : Effects
all = record { arg_read = true; arg_write = true; other_read = true; other_write = true; hidden_read = true; hidden_write = true }

-- A call that may keep a pointer to an alloca and reads what its argument leads to, then one without arguments that reads and writes what it
-- can; then the alloca's byte is the result.
abbrev pub keeps : FuncState
keeps = func (param Ptr ∷ [])
    (block (giving 0 1 (Alloca 1 [] []) ∷ plain 1 (Store I8 (Num I8 7) (local 1) [])
    ∷ plain 2 (Call (record { 0 = 0 }) None (record { ty = Ptr; val = local 1; keeps = true; text = [] } ∷ []) reads [] [])
    ∷ plain 3 (Call (record { 0 = 1 }) None [] all [] [])
    ∷ giving 4 2 (Load I8 (local 1) []) ∷ [])
    (Ret (Some (I8, local 2)) []) ∷ [])

-- with these answers, and an outer object of one byte
abbrev pub keeps_input : List Answer → Input
keeps_input answers = record { args = Pointer 0 (pos 0) ∷ []; objects = (Is 1 ∷ []) ∷ []; answers = answers }

abbrev pub nothing : Answer
nothing = record { result = None; writes = [] }

-- the byte of the alloca is written
abbrev pub writes_it : ℕ → Answer
writes_it n = record { result = None; writes = record { object = 1; offset = pos 0; byte = Is n } ∷ [] }

abbrev pub first_call : Made
first_call = record { callee = record { 0 = 0 }; args = Pointer 1 (pos 0) ∷ []; bytes = Is 7 ∷ [] }

abbrev pub second_call : Made
second_call = record { callee = record { 0 = 1 }; args = []; bytes = Is 1 ∷ Is 7 ∷ [] }
