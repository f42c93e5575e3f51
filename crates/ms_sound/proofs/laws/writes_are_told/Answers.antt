use Rattle.ms_sound.proofs.Meets.{write_told}
use Rattle.ms_sound.proofs.laws.writes_are_told.Goals as goal

-- src/laws.rt:15:1
pub returns : goal.returns
returns c = write_told
