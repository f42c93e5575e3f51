use Rattle.ms_paths.proofs.Stated.{has_answer, one_answer}
use Rattle.ms_paths.proofs.laws.one_answer.Goals as goal

pub returns : goal.returns
returns c = record { has = has_answer; one = one_answer }
