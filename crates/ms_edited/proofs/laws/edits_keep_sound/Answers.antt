use Rattle.ms_edited.proofs.Joined.{keeps_sound}
use Rattle.ms_edited.proofs.laws.edits_keep_sound.Goals as goal

pub returns : goal.returns
returns c = keeps_sound c.part_form.ensures.reducible
