use Rattle.ms_again.proofs.InOrder.{same_text}
use Rattle.ms_again.proofs.laws.same_order.Goals as goal

pub returns : goal.returns
returns c = same_text
