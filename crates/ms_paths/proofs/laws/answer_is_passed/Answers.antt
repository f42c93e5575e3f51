use Rattle.ms_paths.proofs.Starts.{answer_passes}
use Rattle.ms_paths.proofs.laws.answer_is_passed.Goals as goal

pub returns : goal.returns
returns c = answer_passes
