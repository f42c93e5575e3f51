use Rattle.ms_reprint.proofs.Limits.{read_within}
use Rattle.ms_reprint.proofs.laws.within_limits.Goals as goal

pub returns : goal.returns
returns c = read_within
