use Rattle.ms_paths.proofs.Ran.{between}
use Rattle.ms_paths.proofs.laws.between.Goals as goal

pub returns : goal.returns
returns c = between
