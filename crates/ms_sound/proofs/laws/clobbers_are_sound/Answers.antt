use Rattle.ms_sound.proofs.Clobbers.{sound}
use Rattle.ms_sound.proofs.laws.clobbers_are_sound.Goals as goal

-- src/laws.rt:47:1
pub returns : goal.returns
returns c = sound c.runs_follow_paths.ensures
