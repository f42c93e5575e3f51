use Rattle.ms_sound.proofs.Asked.{turn_asked, before_asked}
use Rattle.ms_sound.proofs.laws.turning_clobbers_are_sound.Goals as goal

pub returns : goal.returns
returns c = record { turn = turn_asked c.between_events.ensures c.answer_is_passed.ensures; before = before_asked c.between_events.ensures c.answer_is_passed.ensures }
