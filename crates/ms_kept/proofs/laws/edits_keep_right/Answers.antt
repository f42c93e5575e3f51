use Rattle.ms_kept.proofs.Behind.{keeps_told, edits_right, keeps_one}
use Rattle.ms_kept.proofs.laws.edits_keep_right.Goals as goal

pub returns-clause-told : goal.returns-clause-told
returns-clause-told c = keeps_told

pub returns-clause-right : goal.returns-clause-right
returns-clause-right c = edits_right

pub returns-clause-one : goal.returns-clause-one
returns-clause-one c = keeps_one
