use Rattle.ms_valid.proofs.Items.{accepted_module}
use Rattle.ms_valid.proofs.laws.modules_are_accepted.Goals as goal

pub returns : goal.returns
returns c =
    λ bytes draft m read accepted.
    accepted_module draft m (c.draft_told.ensures.lines bytes draft read) (c.places_told.ensures.walk _ (c.draft_told.ensures.shape bytes draft read)) accepted
