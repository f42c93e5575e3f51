use Rattle.ms_again.proofs.ReadAgain as reading
use Rattle.ms_again.proofs.laws.read_in_order.Goals as goal

pub returns : goal.returns
returns c = reading.read_in_order
