-- Edits of a function: what becomes of it, and why an edit is refused.
use Rattle.std.specs.Prelude.{◌≡◌, ◌≢◌, ◌⊎◌, ◌<◌, ◌≤◌, ◌^◌, ℕ, Bool, true, false, List, length, Option, Some, None, slice_get, slice_index_or, Contains}
use Rattle.ms_ir.specs.declared.names.LocalNo.{LocalNo}
use Rattle.ms_ir.specs.declared.names.Name.{Name}
use Rattle.ms_ir.specs.declared.names.Name.TheVariants.{Absent}
use Rattle.ms_ir.specs.declared.names.Ty.{Ty}
use Rattle.ms_ir.specs.declared.names.Ty.TheVariants.{Ptr}
use Rattle.ms_ir.specs.declared.inst.Val.{Val}
use Rattle.ms_ir.specs.declared.inst.Val.TheVariants.{Num, Local, Global}
use Rattle.ms_ir.specs.declared.inst.Entry.{Entry}
use Rattle.ms_ir.specs.declared.inst.Inst.{Inst}
use Rattle.ms_ir.specs.declared.inst.Inst.TheVariants.{Alloca, Gep, Step, Load, Store, Copy, Call, Bin, Cmp, Select, Cast, Phi}
use Rattle.ms_ir.specs.declared.inst.Term.{Term}
use Rattle.ms_ir.specs.declared.inst.Edit.{Edit}
use Rattle.ms_ir.specs.declared.inst.Edit.TheVariants.{Insert, Remove, Move, Unlink}
use Rattle.ms_ir.specs.declared.faults.EditFault.{EditFault}
use Rattle.ms_ir.specs.declared.faults.EditFault.TheVariants as fault
use Rattle.ms_ir.specs.Inst.{has_result}
use Rattle.ms_ir.specs.Func.{Placed, Block, FuncState, insts_at, no_block, put_at, cut_at, after_put}
use Rattle.ms_ir.specs.Changes.{IsCondBr, cut_target, with_edge_cut}
use Rattle.ms_ir.specs.Locals.{HasName, IsNoLocal, IsBlockNamed}
use Rattle.ms_ir.specs.Types.{bits, is_integer, is_phi, types_stand}
use Rattle.ms_ir.specs.Uses.{Operand, Use, operands_of, term_operands, uses_at, term_uses_at}
use Rattle.ms_ir.specs.Sound.{HasOtherType, IsUsedBefore, edges_between}

-- an instruction that was taken out is put at a place of a block
abbrev pub put_again : List Block → ℕ → ℕ → Option Placed → List Block
put_again blocks b place None = blocks
put_again blocks b place (Some x) = put_at blocks b place x

-- what becomes of a function: the target place of a move counts without the instruction that is moved
abbrev pub edited : FuncState → Edit → FuncState
edited f (Insert block place inst name) = after_put f block.0 place inst name
edited f (Remove block place) = record f { blocks = cut_at f.blocks block.0 place }
edited f (Move block place to_block to_place) =
    record f { blocks = put_again (cut_at f.blocks block.0 place) to_block.0 to_place (slice_get (insts_at f.blocks block.0) place) }
edited f (Unlink block slot) = with_edge_cut f block.0 slot

-- the use is one of an instruction or a terminator
abbrev pub IsUseIn : List Block → Use → Type 0
IsUseIn blocks u =
    ((b : ℕ) × (k : ℕ) × (x : Placed) × (slice_get (insts_at blocks b) k ≡ Some x) × Contains (uses_at blocks b k x.inst) u)
    ⊎ ((b : ℕ) × (x : Block) × (slice_get blocks b ≡ Some x) × Contains (term_uses_at blocks b x.term) u)

-- an instruction or a terminator has the local as an operand
abbrev pub IsOperandIn : List Block → LocalNo → Type 0
IsOperandIn blocks l =
    ((b : ℕ) × (k : ℕ) × (x : Placed) × (slice_get (insts_at blocks b) k ≡ Some x) × (o : Operand) × Contains (operands_of x.inst) o × (o.val ≡ Local l))
    ⊎ ((b : ℕ) × (x : Block) × (slice_get blocks b ≡ Some x) × (o : Operand) × Contains (term_operands x.term) o × (o.val ≡ Local l))

-- a local or a label has the name
abbrev pub IsNameTaken : FuncState → Name → Type 0
IsNameTaken f name = (name ≢ Absent) × (((l : LocalNo) × HasName f l name) ⊎ ((b : ℕ) × IsBlockNamed f.blocks name b))

-- the function has no such block
abbrev pub IsNoBlock : FuncState → ℕ → Type 0
IsNoBlock f b = length f.blocks ≤ b

-- an operand is a local that the function does not have
abbrev pub NamesNoLocal : FuncState → Inst → Type 0
NamesNoLocal f inst = (o : Operand) × (l : LocalNo) × Contains (operands_of inst) o × (o.val ≡ Local l) × IsNoLocal f l

-- an entry of a phi is for a block that the function does not have
abbrev pub NamesNoBlock : FuncState → Inst → Type 0
NamesNoBlock f (Phi ty entries tail) = (e : Entry) × Contains entries e × IsNoBlock f e.from.0
NamesNoBlock f (Alloca size head tail) = ⊥
NamesNoBlock f (Gep base offset head index tail) = ⊥
NamesNoBlock f (Step base offset terms head index tail) = ⊥
NamesNoBlock f (Load ty ptr tail) = ⊥
NamesNoBlock f (Store ty val ptr tail) = ⊥
NamesNoBlock f (Copy to from len head tail) = ⊥
NamesNoBlock f (Call callee ret args effects head tail) = ⊥
NamesNoBlock f (Bin op flags ty a b tail) = ⊥
NamesNoBlock f (Cmp pred flags ty a b tail) = ⊥
NamesNoBlock f (Select cond ty a b tail) = ⊥
NamesNoBlock f (Cast op flags from a to tail) = ⊥

-- a block or local that the edit names is not there, or the name of its result is taken
abbrev pub HasBadName : FuncState → Edit → Type 0
HasBadName f (Insert block place inst name) =
    IsNoBlock f block.0 ⊎ NamesNoBlock f inst ⊎ NamesNoLocal f inst ⊎ ((has_result inst ≡ true) × IsNameTaken f name)
HasBadName f (Remove block place) = IsNoBlock f block.0
HasBadName f (Move block place to_block to_place) = IsNoBlock f block.0 ⊎ IsNoBlock f to_block.0
HasBadName f (Unlink block slot) = IsNoBlock f block.0

-- at this place among a block's instructions none can be put: a phi stands there or behind, or the place is past the end
abbrev pub IsNoTarget : List Placed → ℕ → Type 0
IsNoTarget insts place = ((j : ℕ) × (x : Placed) × (slice_get insts j ≡ Some x) × (is_phi x.inst ≡ true) × (place ≤ j)) ⊎ (length insts < place)

abbrev pub HasBadPlace : FuncState → Edit → Type 0
HasBadPlace f (Insert block place inst name) = IsNoTarget (insts_at f.blocks block.0) place
HasBadPlace f (Remove block place) = length (insts_at f.blocks block.0) ≤ place
HasBadPlace f (Move block place to_block to_place) =
    (length (insts_at f.blocks block.0) ≤ place) ⊎ IsNoTarget (insts_at (cut_at f.blocks block.0 place) to_block.0) to_place
HasBadPlace f (Unlink block slot) = ⊥

-- loads, stores, copies and calls are inserted, removed and moved, and nothing else
abbrev pub is_movable : Inst → Bool
is_movable (Alloca size head tail) = false
is_movable (Gep base offset head index tail) = false
is_movable (Step base offset terms head index tail) = false
is_movable (Load ty ptr tail) = true
is_movable (Store ty val ptr tail) = true
is_movable (Copy to from len head tail) = true
is_movable (Call callee ret args effects head tail) = true
is_movable (Bin op flags ty a b tail) = false
is_movable (Cmp pred flags ty a b tail) = false
is_movable (Select cond ty a b tail) = false
is_movable (Cast op flags from a to tail) = false
is_movable (Phi ty entries tail) = false

-- another instruction stands at the place
abbrev pub IsNotMovable : FuncState → ℕ → ℕ → Type 0
IsNotMovable f b place = (x : Placed) × (slice_get (insts_at f.blocks b) place ≡ Some x) × (is_movable x.inst ≡ false)

abbrev pub term_at : List Block → ℕ → Term
term_at blocks b = (slice_index_or blocks b no_block).term

-- the block does not end in a conditional branch, or has no such slot
abbrev pub HasNoSlot : FuncState → ℕ → ℕ → Type 0
HasNoSlot f b slot = (IsCondBr (term_at f.blocks b) → ⊥) ⊎ (2 ≤ slot)

-- a block has a phi, and no edge leads to it, from a reached block or another
abbrev pub HasIdlePhis : List Block → ℕ → Type 0
HasIdlePhis blocks b =
    ((k : ℕ) × (x : Placed) × (slice_get (insts_at blocks b) k ≡ Some x) × (is_phi x.inst ≡ true)) × ((a : ℕ) → edges_between blocks a b ≡ 0)

abbrev pub HasBadKind : FuncState → Edit → Type 0
HasBadKind f (Insert block place inst name) = is_movable inst ≡ false
HasBadKind f (Remove block place) = IsNotMovable f block.0 place
HasBadKind f (Move block place to_block to_place) = IsNotMovable f block.0 place
HasBadKind f (Unlink block slot) =
    IsCondBr (term_at f.blocks block.0) × (slot < 2) × HasIdlePhis (with_edge_cut f block.0 slot).blocks (cut_target (term_at f.blocks block.0) slot).0

-- a local operand of an instruction that is put has another type than the one written
abbrev pub HasBadTypes : FuncState → Edit → Type 0
HasBadTypes f (Insert block place inst name) = (o : Operand) × Contains (operands_of inst) o × HasOtherType f o
HasBadTypes f (Remove block place) = ⊥
HasBadTypes f (Move block place to_block to_place) = ⊥
HasBadTypes f (Unlink block slot) = ⊥

-- In the function behind the edit some path comes to a use of a local before its definition. A local whose definition is removed has none there. With
-- an edge less there are fewer paths.
abbrev pub HasBadOrder : FuncState → Edit → Type 0
HasBadOrder f (Insert block place inst name) = (u : Use) × IsUseIn (edited f (Insert block place inst name)).blocks u × IsUsedBefore (edited f (Insert block place inst name)) u
HasBadOrder f (Remove block place) = ⊥
HasBadOrder f (Move block place to_block to_place) =
    (u : Use) × IsUseIn (edited f (Move block place to_block to_place)).blocks u × IsUsedBefore (edited f (Move block place to_block to_place)) u
HasBadOrder f (Unlink block slot) = ⊥

-- the result of the instruction that is removed is used
abbrev pub IsStillUsed : FuncState → Edit → Type 0
IsStillUsed f (Insert block place inst name) = ⊥
IsStillUsed f (Remove block place) =
    (x : Placed) × (l : LocalNo) × (slice_get (insts_at f.blocks block.0) place ≡ Some x) × (x.result ≡ Some l) × IsOperandIn f.blocks l
IsStillUsed f (Move block place to_block to_place) = ⊥
IsStillUsed f (Unlink block slot) = ⊥

abbrev pub HasNoEdge : FuncState → Edit → Type 0
HasNoEdge f (Insert block place inst name) = ⊥
HasNoEdge f (Remove block place) = ⊥
HasNoEdge f (Move block place to_block to_place) = ⊥
HasNoEdge f (Unlink block slot) = HasNoSlot f block.0 slot

-- an edit has this fault; want of memory is no fault of the edit
abbrev pub HasFault : FuncState → Edit → EditFault → Type 0
HasFault f e fault.Name = HasBadName f e
HasFault f e fault.Place = HasBadPlace f e
HasFault f e fault.Kind = HasBadKind f e
HasFault f e fault.Types = HasBadTypes f e
HasFault f e fault.Order = HasBadOrder f e
HasFault f e fault.Used = IsStillUsed f e
HasFault f e fault.NoEdge = HasNoEdge f e
HasFault f e fault.Memory = ⊥

-- the number of a refusal
abbrev pub refusal_of : EditFault → ℕ
refusal_of fault.Name = 11
refusal_of fault.Place = 12
refusal_of fault.Kind = 13
refusal_of fault.Types = 14
refusal_of fault.Order = 15
refusal_of fault.Used = 16
refusal_of fault.NoEdge = 17
refusal_of fault.Memory = 18

-- the edit is refused for this fault: of all that it has, the one with the least number
abbrev pub IsRefused : FuncState → Edit → EditFault → Type 0
IsRefused f e why = HasFault f e why × ((other : EditFault) → refusal_of other < refusal_of why → HasFault f e other → ⊥)

-- the edit has no fault
abbrev pub IsFaultless : FuncState → Edit → Type 0
IsFaultless f e = (why : EditFault) → HasFault f e why → ⊥

-- a number is one of the type written for it, below 2 to the number of its bits; a global stands where a pointer is written
abbrev pub IsFittingValue : Ty → Val → Type 0
IsFittingValue ty (Num own n) = (own ≡ ty) × (is_integer ty ≡ true) × (n < 2 ^ bits ty)
IsFittingValue ty (Local l) = Unit {0}
IsFittingValue ty (Global g) = ty ≡ Ptr

-- what is asked of an edit apart from the function: the types of an instruction that is put can stand, and its numbers are within their ranges
abbrev pub IsFittingEdit : Edit → Type 0
IsFittingEdit (Insert block place inst name) = (types_stand inst ≡ true) × ((o : Operand) → Contains (operands_of inst) o → IsFittingValue o.ty o.val)
IsFittingEdit (Remove block place) = Unit {0}
IsFittingEdit (Move block place to_block to_place) = Unit {0}
IsFittingEdit (Unlink block slot) = Unit {0}
