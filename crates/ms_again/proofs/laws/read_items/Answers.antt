use Rattle.ms_again.proofs.ReadAgain as reading
use Rattle.ms_again.proofs.laws.read_items.Goals as goal

pub returns : goal.returns
returns c = reading.items_again_read
