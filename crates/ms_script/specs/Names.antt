-- The names of an edit in a function as it stands, and what the edit is there.
use Rattle.std.specs.Prelude.{◌≡◌, ℕ, suc, zero, Bool, true, false, List, [], ◌∷◌, Option, Some, None, if◌then◌else◌, nat_eq, map, slice_get}
use Rattle.std.specs.List.{flat_map}
use Rattle.ms_ir.specs.declared.names.Name.{Name}
use Rattle.ms_ir.specs.declared.names.Name.TheVariants.{Absent}
use Rattle.ms_ir.specs.declared.names.Param.{Param}
use Rattle.ms_ir.specs.declared.names.LocalNo.{LocalNo}
use Rattle.ms_ir.specs.declared.names.BlockNo.{BlockNo}
use Rattle.ms_ir.specs.declared.inst.Inst.{Inst}
use Rattle.ms_ir.specs.declared.inst.Edit.{Edit}
use Rattle.ms_ir.specs.declared.inst.Edit.TheVariants as edit
use Rattle.ms_ir.specs.declared.faults.EditFault.{EditFault}
use Rattle.ms_ir.specs.declared.faults.EditFault.TheVariants as fault
use Rattle.ms_ir.specs.Func.{Placed, Block, FuncState}
use Rattle.ms_ir.specs.Locals.{IsFirstLocal, IsFirstBlock}
use Rattle.ms_ir.specs.Edits.{IsNameTaken}
use Rattle.ms_ir.specs.Module.{ModuleState}
use Rattle.ms_grammar.specs.Kept.{Each}
use Rattle.ms_grammar.specs.Form.{name_text}
use Rattle.ms_grammar.specs.declared.line.RawVal.{RawVal}
use Rattle.ms_grammar.specs.declared.line.RawVal.TheVariants.{Num, Local, Global}
use Rattle.ms_grammar.specs.declared.line.RawInst.{RawInst}
use Rattle.ms_resolve.specs.Scope.{Scope, inst_of}
use Rattle.ms_resolve.specs.Meaning.{effects_in, keeps_in}
use Rattle.ms_resolve.specs.Used.{values_of, inst_blocks, entry_value, entry_block}
use Rattle.ms_grammar.specs.declared.line.RawEntry.{RawEntry}
use Rattle.ms_script.specs.declared.edit.RawEdit.{RawEdit}
use Rattle.ms_script.specs.declared.edit.RawEdit.TheVariants.{Insert, Remove, Move, Unlink}

-- whether a result is this local
abbrev pub is_local : ℕ → Option LocalNo → Bool
is_local l None = false
is_local l (Some k) = nat_eq k.0 l

-- the name of the local that some of these instructions gives, and Absent where none does
abbrev pub name_given : ℕ → List Placed → Name
name_given l [] = Absent
name_given l (x ∷ xs) = if is_local l x.result then x.name else name_given l xs

abbrev pub insts_of : Block → List Placed
insts_of b = b.insts

abbrev pub name_or : Option Param → Name → Name
name_or None n = n
name_or (Some p) n = p.name

-- the name of a local: a parameter's, or that of an instruction's result
abbrev pub name_of_local : FuncState → ℕ → Name
name_of_local f l = name_or (slice_get f.params l) (name_given l (flat_map insts_of f.blocks))

-- so many locals' names, from one on
abbrev pub names_from : FuncState → ℕ → ℕ → List Name
names_from f l zero = []
names_from f l (suc more) = name_of_local f l ∷ names_from f (suc l) more

abbrev pub block_name : Block → Name
block_name b = b.name

-- What an edit's instruction is read under: the names of the function's locals and blocks, and those of the module, what its functions' lines say,
-- and what attributes mean in it.
abbrev pub scope_of : ModuleState → FuncState → Scope
scope_of m f = record {
  locals = names_from f 0 f.locals;
  blocks = map block_name f.blocks;
  funcs = m.names.funcs;
  globals = m.names.globals;
  sigs = m.sigs;
  effects = effects_in m.groups;
  keeps = keeps_in;
}

-- a block has the name, or a local, or a global variable; a number needs none
abbrev pub KnowsBlock : FuncState → Name → Type 0
KnowsBlock f n = (b : ℕ) × IsFirstBlock f.blocks n b

abbrev pub KnowsLocal : FuncState → Name → Type 0
KnowsLocal f n = (l : LocalNo) × IsFirstLocal f n l

abbrev pub KnowsValue : ModuleState → FuncState → RawVal → Type 0
KnowsValue m f (Num ty n) = Unit {0}
KnowsValue m f (Local n) = KnowsLocal f n
KnowsValue m f (Global n) = (g : ℕ) × (slice_get m.names.globals g ≡ Some (name_text n))

abbrev pub KnowsEntry : ModuleState → FuncState → RawEntry → Type 0
KnowsEntry m f e = KnowsValue m f e.val × KnowsBlock f e.from

abbrev pub KnowsEntries : ModuleState → FuncState → List RawEntry → Type 0
KnowsEntries m f entries = Each (KnowsValue m f) (map entry_value entries) × Each (KnowsBlock f) (map entry_block entries)

-- all that an instruction names is there: its operands, and the blocks of a phi
pub record KnowsInst (m : ModuleState) (f : FuncState) (inst : RawInst) : Type 0 where
  pub values : Each (KnowsValue m f) (values_of inst)
  pub blocks : Each (KnowsBlock f) (inst_blocks inst)

-- all that an edit names is there, and its result's name is new
pub record KnowsInsert (m : ModuleState) (f : FuncState) (block : Name) (inst : RawInst) (result : Name) : Type 0 where
  pub block_there : KnowsBlock f block
  pub inst_there : KnowsInst m f inst
  pub free : IsNameTaken f result → ⊥

abbrev pub KnowsEdit : ModuleState → FuncState → RawEdit → Type 0
KnowsEdit m f (Insert block place inst result) = KnowsInsert m f block inst result
KnowsEdit m f (Remove block place) = KnowsBlock f block
KnowsEdit m f (Move block place to_block to_place) = KnowsBlock f block × KnowsBlock f to_block
KnowsEdit m f (Unlink block slot) = KnowsBlock f block

-- the edit by numbers: the first block of each name, and the instruction that the line gives in the function's scope
abbrev pub Becomes : ModuleState → FuncState → RawEdit → Edit → Type 0
Becomes m f (Insert block place inst result) (edit.Insert b p i n) =
    IsFirstBlock f.blocks block b.0 × (p ≡ place) × (i ≡ inst_of (scope_of m f) inst) × (n ≡ result)
Becomes m f (Remove block place) (edit.Remove b p) = IsFirstBlock f.blocks block b.0 × (p ≡ place)
Becomes m f (Move block place to_block to_place) (edit.Move b p to q) =
    IsFirstBlock f.blocks block b.0 × (p ≡ place) × IsFirstBlock f.blocks to_block to.0 × (q ≡ to_place)
Becomes m f (Unlink block slot) (edit.Unlink b s) = IsFirstBlock f.blocks block b.0 × (s ≡ slot)
Becomes m f _ _ = ⊥

-- each name of the edit is there, and this is the edit
pub record IsResolved (m : ModuleState) (f : FuncState) (raw : RawEdit) (e : Edit) : Type 0 where
  pub known : KnowsEdit m f raw
  pub becomes : Becomes m f raw e

-- why names are refused: something that has to be so is not, or there is no memory
abbrev pub Refuses : Type 0 → EditFault → Type 0
Refuses Known fault.Name = Known → ⊥
Refuses Known fault.Memory = Unit {0}
Refuses Known _ = ⊥
