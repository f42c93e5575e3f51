use Rattle.ms_whole.proofs.Counted.{one_number}
use Rattle.ms_whole.proofs.laws.one_number_of_reads.Goals as goal

pub returns : goal.returns
returns c = one_number c.one_cost.ensures.one
