use Rattle.ms_paths.proofs.Stated.{answer_lies}
use Rattle.ms_paths.proofs.laws.answer_lies_on_every.Goals as goal

pub returns : goal.returns
returns c = answer_lies
