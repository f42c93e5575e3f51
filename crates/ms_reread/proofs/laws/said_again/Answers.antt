use Rattle.ms_reread.proofs.Reread.{said_again}
use Rattle.ms_reread.proofs.laws.said_again.Goals as goal

pub returns : goal.returns
returns c = said_again
