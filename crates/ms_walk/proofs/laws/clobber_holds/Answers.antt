use Rattle.ms_walk.proofs.Holds.{holds}
use Rattle.ms_walk.proofs.laws.clobber_holds.Goals as goal

pub returns : goal.returns
returns c = λ f i loc e numbered sound is.
    holds c.sound_functions_begin_once.ensures c.clobbers_are_sound.ensures c.turning_clobbers_are_sound.ensures.turn c.turning_clobbers_are_sound.ensures.before f numbered sound i loc e is
