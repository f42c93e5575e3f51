-- The laws of edits, joined from those of each edit.
use Rattle.std.proofs.Common.{◌<◌, ◌+◌, ◌^◌}
use Rattle.ms_ir.specs.declared.inst.Edit.{Edit}
use Rattle.ms_ir.specs.declared.inst.Edit.TheVariants.{Insert, Remove, Move, Unlink}
use Rattle.ms_ir.specs.Func.{FuncState}
use Rattle.ms_ir.specs.Locals.{IsNumbered}
use Rattle.ms_ir.specs.SoundFunc.{IsSoundFunc}
use Rattle.ms_ir.specs.Edits.{edited, IsFaultless, IsFittingEdit}
use Rattle.ms_edited.proofs.Shape.{PartIsReducible}
use Rattle.ms_edited.proofs.Inserted.{inserted_sound, inserted_numbers}
use Rattle.ms_edited.proofs.Removed.{removed_sound, removed_numbers}
use Rattle.ms_edited.proofs.Moved.{moved_sound, moved_numbers}
use Rattle.ms_edited.proofs.Unlinked.{unlinked_sound, unlinked_numbers}

pub keeps_sound : PartIsReducible → (f : FuncState) (e : Edit) → IsNumbered f → IsSoundFunc f → IsFittingEdit e → IsFaultless f e → IsSoundFunc (edited f e)
keeps_sound part f (Insert block place inst name) n sound fits fine = inserted_sound f n block place inst name fine part sound fits
keeps_sound part f (Remove block place) n sound fits fine = removed_sound f n block place fine part sound
keeps_sound part f (Move block place to_block to_place) n sound fits fine = moved_sound f n block place to_block to_place fine part sound
keeps_sound part f (Unlink block slot) n sound fits fine = unlinked_sound f n block slot fine sound part

pub keeps_numbers : (f : FuncState) (e : Edit) → IsNumbered f → f.made + 1 < 2 ^ 32 → IsFaultless f e → IsNumbered (edited f e)
keeps_numbers f (Insert block place inst name) n few fine = inserted_numbers f n block place inst name fine few
keeps_numbers f (Remove block place) n few fine = removed_numbers f n block place fine
keeps_numbers f (Move block place to_block to_place) n few fine = moved_numbers f n block place to_block to_place fine
keeps_numbers f (Unlink block slot) n few fine = unlinked_numbers f n block slot fine
