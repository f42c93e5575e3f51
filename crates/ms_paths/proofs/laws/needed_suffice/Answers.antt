use Rattle.ms_paths.proofs.Stated.{needed_suffice}
use Rattle.ms_paths.proofs.laws.needed_suffice.Goals as goal

pub returns : goal.returns
returns c = needed_suffice
