use Rattle.ms_again.proofs.Ordered as ordered
use Rattle.ms_again.proofs.laws.in_order.Goals as goal

pub returns : goal.returns
returns c = ordered.in_order
