use Rattle.ms_paths.proofs.Stated.{needed_told}
use Rattle.ms_paths.proofs.laws.needed_told.Goals as goal

pub returns : goal.returns
returns c = needed_told
