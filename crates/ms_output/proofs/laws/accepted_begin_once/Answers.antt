use Rattle.ms_output.proofs.laws.accepted_begin_once.Goals as goal

pub returns-clause-once : goal.returns-clause-once
returns-clause-once c = λ bytes draft m read accepted n f body. c.sound_functions_begin_once.ensures f (c.accepted_are_sound.ensures bytes draft m read accepted n f body)
