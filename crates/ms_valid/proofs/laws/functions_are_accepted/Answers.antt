use Rattle.ms_valid.proofs.Whole.{accepted_whole}
use Rattle.ms_valid.proofs.laws.functions_are_accepted.Goals as goal

pub returns : goal.returns
returns c =
    λ bytes draft m read accepted n f body.
    accepted_whole draft m (c.draft_told.ensures.lines bytes draft read) (c.places_told.ensures.walk _ (c.draft_told.ensures.shape bytes draft read)) accepted n f body
