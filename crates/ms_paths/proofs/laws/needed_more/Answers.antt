use Rattle.ms_paths.proofs.Stated.{needed_more}
use Rattle.ms_paths.proofs.laws.needed_more.Goals as goal

pub returns : goal.returns
returns c = needed_more
