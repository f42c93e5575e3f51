use Rattle.ms_paths.proofs.OneMore.{needs_without}
use Rattle.ms_paths.proofs.laws.needed_without.Goals as goal

pub returns : goal.returns
returns c = needs_without
