use Rattle.ms_paths.proofs.Reduce.{order_reducible, back_over}
use Rattle.ms_paths.proofs.laws.order_told.Goals as goal

pub returns : goal.returns
returns c = record { holds = order_reducible; back = back_over }
