use Rattle.ms_valid.proofs.Sound.{accepted_sound}
use Rattle.ms_valid.proofs.laws.accepted_are_sound.Goals as goal

pub returns : goal.returns
returns c =
    λ bytes draft m read accepted n f body.
    accepted_sound draft m (c.draft_told.ensures.lines bytes draft read) (c.places_told.ensures.walk _ (c.draft_told.ensures.shape bytes draft read)) accepted n f body
