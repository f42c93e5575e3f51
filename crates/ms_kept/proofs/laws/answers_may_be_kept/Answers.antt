use Rattle.ms_kept.proofs.Behind.{none_right, more_right}
use Rattle.ms_kept.proofs.laws.answers_may_be_kept.Goals as goal

pub returns-clause-none : goal.returns-clause-none
returns-clause-none c = none_right

pub returns-clause-more : goal.returns-clause-more
returns-clause-more c = more_right
