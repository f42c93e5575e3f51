-- Changes of a function's instructions and terminators.
use Rattle.std.specs.Prelude.{◌==◌, ℕ, List, [], map, Option, Some, None, Bool, if◌then◌else◌, position, remove, slice_index_or, slice_set}
use Rattle.ms_ir.specs.declared.names.BlockNo.{BlockNo}
use Rattle.ms_ir.specs.declared.names.LocalNo.{LocalNo}
use Rattle.ms_ir.specs.declared.inst.Val.{Val}
use Rattle.ms_ir.specs.declared.inst.Val.TheVariants.{Num, Local, Global}
use Rattle.ms_ir.specs.declared.inst.Arg.{Arg}
use Rattle.ms_ir.specs.declared.inst.Entry.{Entry}
use Rattle.ms_ir.specs.declared.inst.IndexTerm.{IndexTerm}
use Rattle.ms_ir.specs.declared.inst.Inst.{Inst}
use Rattle.ms_ir.specs.declared.inst.Inst.TheVariants.{Alloca, Gep, Step, Load, Store, Copy, Call, Bin, Cmp, Select, Cast, Phi}
use Rattle.ms_ir.specs.declared.inst.Term.{Term}
use Rattle.ms_ir.specs.declared.inst.Term.TheVariants.{Br, CondBr, Ret, Unreachable}
use Rattle.ms_ir.specs.declared.func.Node.{Node}
use Rattle.ms_ir.specs.declared.func.BlockParts.{BlockParts}
use Rattle.ms_ir.specs.Func.{Placed, Block, FuncState, insts_at, with_insts, no_block, IsAt}

-- the value in a use, where each use of the local l becomes another value
abbrev pub val_with : LocalNo → Val → Val → Val
val_with l by (Num ty n) = Num ty n
val_with l by (Local k) = if k.0 == l.0 then by else Local k
val_with l by (Global g) = Global g

abbrev pub arg_with : LocalNo → Val → Arg → Arg
arg_with l by a = record a { val = val_with l by a.val }

abbrev pub index_with : LocalNo → Val → IndexTerm → IndexTerm
index_with l by t = record t { val = val_with l by t.val }

abbrev pub entry_with : LocalNo → Val → Entry → Entry
entry_with l by e = record e { val = val_with l by e.val }

abbrev pub inst_with : LocalNo → Val → Inst → Inst
inst_with l by (Alloca size head tail) = Alloca size head tail
inst_with l by (Gep base offset head index tail) = Gep (val_with l by base) offset head index tail
inst_with l by (Step base offset terms head index tail) = Step (val_with l by base) offset (map (index_with l by) terms) head index tail
inst_with l by (Load ty ptr tail) = Load ty (val_with l by ptr) tail
inst_with l by (Store ty val ptr tail) = Store ty (val_with l by val) (val_with l by ptr) tail
inst_with l by (Copy to from len head tail) = Copy (arg_with l by to) (arg_with l by from) len head tail
inst_with l by (Call callee ret args effects head tail) = Call callee ret (map (arg_with l by) args) effects head tail
inst_with l by (Bin op flags ty a b tail) = Bin op flags ty (val_with l by a) (val_with l by b) tail
inst_with l by (Cmp pred flags ty a b tail) = Cmp pred flags ty (val_with l by a) (val_with l by b) tail
inst_with l by (Select cond ty a b tail) = Select (val_with l by cond) ty (val_with l by a) (val_with l by b) tail
inst_with l by (Cast op flags from a to tail) = Cast op flags from (val_with l by a) to tail
inst_with l by (Phi ty entries tail) = Phi ty (map (entry_with l by) entries) tail

abbrev pub term_with : LocalNo → Val → Term → Term
term_with l by (Br b text) = Br b text
term_with l by (CondBr cond a b text) = CondBr (val_with l by cond) a b text
term_with l by (Ret None text) = Ret None text
term_with l by (Ret (Some p) text) = Ret (Some (p.0, val_with l by p.1)) text
term_with l by (Unreachable text) = Unreachable text

abbrev pub node_with : LocalNo → Val → Node → Node
node_with l by n = record n { inst = inst_with l by n.inst }

abbrev pub parts_with : LocalNo → Val → BlockParts → BlockParts
parts_with l by d = record d { term = term_with l by d.term }

abbrev pub placed_with : LocalNo → Val → Placed → Placed
placed_with l by x = record x { inst = inst_with l by x.inst }

abbrev pub block_with : LocalNo → Val → Block → Block
block_with l by b = record { name = b.name; insts = map (placed_with l by) b.insts; term = term_with l by b.term }

-- each use of the local l, in an instruction or a terminator, is a use of another value
abbrev pub with_replaced : FuncState → LocalNo → Val → FuncState
with_replaced f l by = record f { blocks = map (block_with l by) f.blocks }

abbrev pub IsCopy : Inst → Type 0
IsCopy (Copy to from len head tail) = Unit {0}
IsCopy _ = ⊥

-- the instruction of this number is in the function, and is a copy
abbrev pub IsCopyThere : List Block → ℕ → Type 0
IsCopyThere blocks n = (b : ℕ) × (place : ℕ) × (x : Placed) × IsAt blocks n b place x × IsCopy x.inst

-- a copy with another source
abbrev pub inst_sourced : Arg → Inst → Inst
inst_sourced arg (Copy to from len head tail) = Copy to arg len head tail
inst_sourced arg inst = inst

abbrev pub placed_sourced : ℕ → Arg → Placed → Placed
placed_sourced n arg x = if x.number == n then record x { inst = inst_sourced arg x.inst } else x

abbrev pub block_sourced : ℕ → Arg → Block → Block
block_sourced n arg b = with_insts b (map (placed_sourced n arg) b.insts)

-- the copy of this number reads another source
abbrev pub with_source : FuncState → ℕ → Arg → FuncState
with_source f n arg = record f { blocks = map (block_sourced n arg) f.blocks }

abbrev pub is_from : ℕ → Entry → Bool
is_from b e = e.from.0 == b

abbrev pub without : List Entry → Option ℕ → List Entry
without entries None = entries
without entries (Some at) = remove entries at

-- the first entry for a predecessor is left out
abbrev pub without_first : ℕ → List Entry → List Entry
without_first b entries = without entries (position (is_from b) entries)

abbrev pub inst_without : ℕ → Inst → Inst
inst_without b (Phi ty entries tail) = Phi ty (without_first b entries) tail
inst_without b inst = inst

abbrev pub node_without : ℕ → Node → Node
node_without b n = record n { inst = inst_without b n.inst }

abbrev pub placed_without : ℕ → Placed → Placed
placed_without b x = record x { inst = inst_without b x.inst }

-- the phis of block c lose their first entry for block b
abbrev pub with_entry_lost : List Block → ℕ → ℕ → List Block
with_entry_lost blocks c b = slice_set blocks c (with_insts (slice_index_or blocks c no_block) (map (placed_without b) (insts_at blocks c)))

abbrev pub with_term : List Block → ℕ → Term → List Block
with_term blocks b term = slice_set blocks b (record (slice_index_or blocks b no_block) { term = term })

abbrev pub IsCondBr : Term → Type 0
IsCondBr (CondBr cond a b text) = Unit {0}
IsCondBr _ = ⊥

-- the target of a conditional branch that stays when one is cut: slot 0 is the target for true, slot 1 that for false
abbrev pub kept_target : Term → ℕ → BlockNo
kept_target (CondBr cond a b text) slot = if slot == 0 then b else a
kept_target _ slot = record { 0 = 0 }

abbrev pub cut_target : Term → ℕ → BlockNo
cut_target (CondBr cond a b text) slot = if slot == 0 then a else b
cut_target _ slot = record { 0 = 0 }

abbrev pub blocks_with_edge_cut : List Block → ℕ → BlockNo → BlockNo → List Block
blocks_with_edge_cut blocks b kept cut = with_entry_lost (with_term blocks b (Br kept [])) cut.0 b

-- The conditional branch of block b becomes a branch to its other target, without kept text, and the phis of the cut target
-- lose that edge's entry.
abbrev pub with_edge_cut : FuncState → ℕ → ℕ → FuncState
with_edge_cut f b slot = record f {
  blocks = blocks_with_edge_cut f.blocks b (kept_target (slice_index_or f.blocks b no_block).term slot) (cut_target (slice_index_or f.blocks b no_block).term slot);
}
