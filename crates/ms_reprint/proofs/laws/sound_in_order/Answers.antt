use Rattle.ms_reprint.proofs.Sound.{in_order}
use Rattle.ms_reprint.proofs.laws.sound_in_order.Goals as goal

pub returns : goal.returns
returns c = in_order c.part_form.ensures.reducible
