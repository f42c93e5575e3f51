use Rattle.ms_again.proofs.ReadAgain.{read_again}
use Rattle.ms_again.proofs.laws.read_again.Goals as goal

pub returns : goal.returns
returns c = read_again
