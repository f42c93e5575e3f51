use Rattle.ms_alias.proofs.Locations.{one_read, one_written}
use Rattle.ms_alias.proofs.laws.one_location.Goals as goal

pub returns-clause-reads : goal.returns-clause-reads
returns-clause-reads c = one_read

pub returns-clause-writes : goal.returns-clause-writes
returns-clause-writes c = one_written
