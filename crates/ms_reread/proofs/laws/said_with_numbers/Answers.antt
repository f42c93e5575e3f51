use Rattle.ms_reread.proofs.Summed.{said_with_numbers}
use Rattle.ms_reread.proofs.laws.said_with_numbers.Goals as goal

pub returns : goal.returns
returns c = said_with_numbers
