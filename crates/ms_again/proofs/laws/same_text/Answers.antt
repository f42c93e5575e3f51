use Rattle.ms_again.proofs.SameText.{same_text}
use Rattle.ms_again.proofs.laws.same_text.Goals as goal

pub returns : goal.returns
returns c = same_text
