use Rattle.ms_paths.proofs.Removed.{def_out, not_its_own}
use Rattle.ms_paths.proofs.laws.def_out.Goals as goal

pub returns : goal.returns
returns c = record { left_out = def_out; another = not_its_own }
