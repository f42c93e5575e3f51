use Rattle.ms_alias.proofs.Asked.{written_at_all}
use Rattle.ms_alias.proofs.laws.written_at_all.Goals as goal

pub returns : goal.returns
returns c = written_at_all
