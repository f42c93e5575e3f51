use Rattle.ms_edited.proofs.Joined.{keeps_numbers}
use Rattle.ms_edited.proofs.laws.edits_keep_numbers.Goals as goal

pub returns : goal.returns
returns c = keeps_numbers
