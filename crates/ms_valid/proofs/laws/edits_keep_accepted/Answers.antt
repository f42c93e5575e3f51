use Rattle.ms_valid.proofs.Kept.{edit_accepted}
use Rattle.ms_valid.proofs.laws.edits_keep_accepted.Goals as goal

pub returns : goal.returns
returns c = edit_accepted c.edits_keep_sound.ensures
