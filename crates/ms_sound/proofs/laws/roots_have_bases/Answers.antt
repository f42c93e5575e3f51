use Rattle.ms_sound.proofs.Meets.{root_has_base}
use Rattle.ms_sound.proofs.laws.roots_have_bases.Goals as goal

-- src/laws.rt:22:1
pub returns : goal.returns
returns c = root_has_base
