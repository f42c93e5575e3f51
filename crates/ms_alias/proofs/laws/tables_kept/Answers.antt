use Rattle.ms_alias.proofs.Edits.{put_kept, take_kept}
use Rattle.ms_alias.proofs.Cuts.{cut_ready}
use Rattle.ms_alias.proofs.laws.tables_kept.Goals as goal

pub returns-clause-put : goal.returns-clause-put
returns-clause-put c = put_kept

pub returns-clause-take : goal.returns-clause-take
returns-clause-take c = take_kept

pub returns-clause-cut : goal.returns-clause-cut
returns-clause-cut c = cut_ready
