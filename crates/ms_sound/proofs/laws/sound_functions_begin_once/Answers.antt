use Rattle.ms_sound.proofs.Begins.{begins_once}
use Rattle.ms_sound.proofs.laws.sound_functions_begin_once.Goals as goal

pub returns : goal.returns
returns c = begins_once
