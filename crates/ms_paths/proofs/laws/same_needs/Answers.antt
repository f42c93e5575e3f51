use Rattle.ms_paths.proofs.Removed.{same_needs}
use Rattle.ms_paths.proofs.laws.same_needs.Goals as goal

pub returns : goal.returns
returns c = same_needs
