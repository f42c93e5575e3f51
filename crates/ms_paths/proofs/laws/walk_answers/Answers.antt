use Rattle.ms_paths.proofs.Walks.{walk_answers}
use Rattle.ms_paths.proofs.laws.walk_answers.Goals as goal

pub returns : goal.returns
returns c = walk_answers
