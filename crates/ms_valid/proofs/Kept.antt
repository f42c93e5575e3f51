-- Behind an edit without a fault an accepted function is accepted.
use Rattle.ms_ir.specs.declared.inst.Edit.{Edit}
use Rattle.ms_ir.specs.declared.inst.Edit.TheVariants.{Insert, Remove, Move, Unlink}
use Rattle.ms_ir.specs.Func.{FuncState}
use Rattle.ms_ir.specs.Locals.{IsNumbered}
use Rattle.ms_ir.specs.Module.{ModuleState}
use Rattle.ms_ir.specs.Edits.{edited, IsFaultless}
use Rattle.ms_valid.specs.Func.{IsAcceptedFunc}
use Rattle.ms_valid.specs.Edits.{IsEditIn}
use Rattle.ms_valid.proofs.Edited.{SoundStays, insert_accepted, remove_accepted, move_accepted}
use Rattle.ms_valid.proofs.Unlinked.{unlink_accepted}

pub edit_accepted : SoundStays → (m : ModuleState) (f : FuncState) (e : Edit) → IsNumbered f → IsAcceptedFunc m f → IsEditIn m e → IsFaultless f e → IsAcceptedFunc m (edited f e)
edit_accepted stays m f (Insert block place inst name) n a h fine = insert_accepted stays m f block place inst name n a h fine
edit_accepted stays m f (Remove block place) n a h fine = remove_accepted stays m f block place n a fine
edit_accepted stays m f (Move block place to_block to_place) n a h fine = move_accepted stays m f block place to_block to_place n a fine
edit_accepted stays m f (Unlink block slot) n a h fine = unlink_accepted stays m f block slot n a fine
