use Rattle.ms_session.proofs.Unique.{annotated_once}
use Rattle.ms_session.proofs.laws.one_annotated.Goals as goal

pub returns : goal.returns
returns c = annotated_once c.one_answer.ensures.one
