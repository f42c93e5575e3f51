use Rattle.ms_meaning.proofs.Follows.{runs_follow}
use Rattle.ms_meaning.proofs.laws.runs_follow_paths.Goals as goal

-- src/laws.rt:21:1
pub returns : goal.returns
returns c = runs_follow
