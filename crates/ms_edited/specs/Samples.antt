-- Small functions and their edits.
use Rattle.std.specs.Prelude.{ℕ, List, [], ◌∷◌, Some, None}
use Rattle.ms_ir.specs.declared.names.Name.TheVariants.{Number, Absent}
use Rattle.ms_ir.specs.declared.names.Ty.{Ty}
use Rattle.ms_ir.specs.declared.names.Ty.TheVariants.{I1, I32, Ptr}
use Rattle.ms_ir.specs.declared.names.BlockNo.{BlockNo}
use Rattle.ms_ir.specs.declared.names.Param.{Param}
use Rattle.ms_ir.specs.declared.inst.Val.{Val}
use Rattle.ms_ir.specs.declared.inst.Val.TheVariants.{Num, Local}
use Rattle.ms_ir.specs.declared.inst.Entry.{Entry}
use Rattle.ms_ir.specs.declared.inst.Inst.{Inst}
use Rattle.ms_ir.specs.declared.inst.Inst.TheVariants.{Load, Store, Phi}
use Rattle.ms_ir.specs.declared.inst.Term.{Term}
use Rattle.ms_ir.specs.declared.inst.Term.TheVariants.{Br, CondBr, Ret}
use Rattle.ms_ir.specs.Func.{Placed, Block, FuncState}

abbrev pub local : ℕ → Val
local k = Local (record { 0 = k })

abbrev pub block_no : ℕ → BlockNo
block_no b = record { 0 = b }

abbrev pub entry : Val → ℕ → Entry
entry v b = record { val = v; from = block_no b }

abbrev plain : ℕ → Inst → Placed
plain n inst = record { number = n; result = None; name = Absent; inst = inst }

abbrev giving : ℕ → ℕ → Inst → Placed
giving n k inst = record { number = n; result = Some (record { 0 = k }); name = Absent; inst = inst }

abbrev block : List Placed → Term → Block
block insts term = record { name = Absent; insts = insts; term = term }

abbrev param : Ty → Param
param ty = record { ty = ty; text = []; name = Absent }

-- of a condition and a pointer
abbrev func : List Block → ℕ → ℕ → ℕ → FuncState
func blocks made locals spare = record { name = []; head = []; ret = None; params = param I1 ∷ param Ptr ∷ []; tail = []; blocks = blocks; made = made; locals = locals; spare = spare }

-- stores a number through the pointer
abbrev pub stores : ℕ → Inst
stores k = Store I32 (Num I32 k) (local 1) []

abbrev pub loads : Inst
loads = Load I32 (local 1) []

-- a load and stores, on one arm and before both; behind them a phi of what was loaded and 0
abbrev first_insts : List Placed
first_insts = plain 0 (stores 1) ∷ giving 1 2 loads ∷ []

abbrev forks : Term
forks = CondBr (local 0) (block_no 1) (block_no 2) []

abbrev goes : ℕ → Term
goes b = Br (block_no b) []

abbrev of_both : Placed
of_both = giving 3 3 (Phi I32 (entry (local 2) 0 ∷ entry (Num I32 0) 1 ∷ []) [])

abbrev of_arm : Placed
of_arm = giving 3 3 (Phi I32 (entry (Num I32 0) 1 ∷ []) [])

abbrev returns : Term
returns = Ret (Some (I32, local 3)) []

-- the one block with a name
abbrev labelled : List Placed → Block
labelled insts = record { name = Number 5; insts = insts; term = goes 2 }

abbrev arm : Block
arm = labelled (plain 2 (stores 2) ∷ [])

abbrev pub diamond : FuncState
diamond = func (block first_insts forks ∷ arm ∷ block (of_both ∷ []) returns ∷ []) 4 4 2

-- with a store behind the phi
abbrev pub inserted : FuncState
inserted = func (block first_insts forks ∷ arm ∷ block (of_both ∷ plain 4 (stores 7) ∷ []) returns ∷ []) 5 4 1

-- with a load before all, whose result is local 4
abbrev pub loads_first : FuncState
loads_first = func (block (giving 4 4 loads ∷ first_insts) forks ∷ arm ∷ block (of_both ∷ []) returns ∷ []) 5 5 1

-- without the store of the arm
abbrev pub removed : FuncState
removed = func (block first_insts forks ∷ labelled [] ∷ block (of_both ∷ []) returns ∷ []) 4 4 2

-- with the first store behind the load
abbrev pub moved : FuncState
moved = func (block (giving 1 2 loads ∷ plain 0 (stores 1) ∷ []) forks ∷ arm ∷ block (of_both ∷ []) returns ∷ []) 4 4 2

-- with the arm alone
abbrev pub unlinked : FuncState
unlinked = func (block first_insts (goes 1) ∷ arm ∷ block (of_arm ∷ []) returns ∷ []) 4 4 2

-- both slots lead to one block, which has two entries for them, or one
abbrev pub twice : FuncState
twice = func (block first_insts (CondBr (local 0) (block_no 1) (block_no 1) []) ∷ block (giving 3 3 (Phi I32 (entry (local 2) 0 ∷ entry (local 2) 0 ∷ []) []) ∷ []) returns ∷ []) 4 4 2

abbrev pub once : FuncState
once = func (block first_insts (goes 1) ∷ block (giving 3 3 (Phi I32 (entry (local 2) 0 ∷ []) []) ∷ []) returns ∷ []) 4 4 2

-- one edge alone leads to a block with a phi
abbrev pub guarded : FuncState
guarded = func (block first_insts forks ∷ block (giving 3 3 (Phi I32 (entry (local 2) 0 ∷ []) []) ∷ []) returns ∷ block [] (Ret (Some (I32, Num I32 0)) []) ∷ []) 4 4 2
