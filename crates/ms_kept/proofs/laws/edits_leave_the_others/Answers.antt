use Rattle.ms_kept.proofs.Edits.{put_same, taken_same, shifted_same}
use Rattle.ms_kept.proofs.laws.edits_leave_the_others.Goals as goal

pub returns-clause-put : goal.returns-clause-put
returns-clause-put c = put_same

pub returns-clause-taken : goal.returns-clause-taken
returns-clause-taken c = taken_same

pub returns-clause-shifted : goal.returns-clause-shifted
returns-clause-shifted c = shifted_same
