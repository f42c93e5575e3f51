-- Next steps that have no meaning.
use Rattle.std.proofs.Common.{pos, [], ◌∷◌, refl, inl, inr}
use Rattle.ms_meaning.specs.Values.{Unset, Is}
use Rattle.ms_meaning.specs.Samples.{adds, strides}
use Rattle.ms_steady.specs.Undefined.{IsUndefined, by_inst}
use Rattle.ms_steady.specs.Samples.{about_to_load, about_to_step}

pub outside_object : IsUndefined adds (about_to_load (Is 1 ∷ Is 0 ∷ Is 0 ∷ []))
outside_object = by_inst _ refl (0, pos 0, refl, inl refl)

pub unset_in_object : IsUndefined adds (about_to_load (Is 1 ∷ Is 0 ∷ Unset ∷ Is 0 ∷ []))
unset_in_object = by_inst _ refl (0, pos 0, refl, inr (_, refl, refl))

pub offset_out_of_range : IsUndefined strides (about_to_step 9223372036854775804)
offset_out_of_range = by_inst _ refl (0, pos 0, pos 9223372036854775804, refl, refl, refl)
