use Rattle.ms_kept.proofs.Asked.{read_asked, written_asked}
use Rattle.ms_kept.proofs.laws.own_locations_may_be_asked.Goals as goal

pub returns-clause-read : goal.returns-clause-read
returns-clause-read c f i loc h = read_asked f i h.2.inst loc h.4

pub returns-clause-written : goal.returns-clause-written
returns-clause-written c f i loc h = written_asked f i h.2.inst loc h.4
