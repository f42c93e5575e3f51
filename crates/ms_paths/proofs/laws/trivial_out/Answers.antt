use Rattle.ms_paths.proofs.Settle.{trivial_out}
use Rattle.ms_paths.proofs.laws.trivial_out.Goals as goal

pub returns : goal.returns
returns c = λ g E Z phis enters operand leaves b e form zb tb ne one. trivial_out g E Z phis enters operand leaves b e form zb tb ne one
