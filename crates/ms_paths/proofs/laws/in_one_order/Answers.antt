use Rattle.ms_paths.proofs.Before.{one_before, not_both}
use Rattle.ms_paths.proofs.laws.in_one_order.Goals as goal

pub returns : goal.returns
returns c = record { one = one_before; not_both = not_both }
