use Rattle.ms_reprint.proofs.Reprint as reprint
use Rattle.ms_reprint.proofs.laws.read_again.Goals as goal

pub returns : goal.returns
returns c = reprint.read_again c.said_with_numbers.ensures c.part_form.ensures.reducible
