use Rattle.ms_update.proofs.OneCost.{one_cost}
use Rattle.ms_update.proofs.laws.one_cost.Goals as goal

pub returns : goal.returns
returns c = record { one = one_cost }
