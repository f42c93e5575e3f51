-- What is asked of an edit in its module, beside the faults that it may have: what is inserted is an instruction that a line of the grammar says there.
use Rattle.std.specs.Prelude.{◌≡◌, false}
use Rattle.ms_ir.specs.declared.names.Name.{Name}
use Rattle.ms_ir.specs.declared.names.Name.TheVariants.{Absent}
use Rattle.ms_ir.specs.declared.inst.Inst.{Inst}
use Rattle.ms_ir.specs.declared.inst.Edit.{Edit}
use Rattle.ms_ir.specs.declared.inst.Edit.TheVariants.{Insert, Remove, Move, Unlink}
use Rattle.ms_ir.specs.Inst.{has_result}
use Rattle.ms_ir.specs.Module.{ModuleState}
use Rattle.ms_validity.specs.Faults.{CallsOtherwise}
use Rattle.ms_valid.specs.Func.{IsSaidInst, IsWordOrNone}

-- Some line says the instruction, whatever it names its locals; its call is as its function's line; and its name is a word of the language or none,
-- where it gives a result.
pub record IsInstIn (m : ModuleState) (inst : Inst) (name : Name) : Type 0 where
  pub said : IsSaidInst m inst
  pub calls : CallsOtherwise m inst → ⊥
  pub word : IsWordOrNone name
  pub unnamed : has_result inst ≡ false → name ≡ Absent

-- nothing is asked of an edit that inserts nothing
abbrev pub IsEditIn : ModuleState → Edit → Type 0
IsEditIn m (Insert block place inst name) = IsInstIn m inst name
IsEditIn m (Remove block place) = Unit {0}
IsEditIn m (Move block place to_block to_place) = Unit {0}
IsEditIn m (Unlink block slot) = Unit {0}
