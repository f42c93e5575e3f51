use Rattle.ms_edited.proofs.Removed.{behind_left}
use Rattle.ms_edited.proofs.laws.removes_keep_order.Goals as goal

pub returns : goal.returns
returns c = λ f block place n sound in_block within. behind_left f n block.0 place in_block within sound
