use Rattle.ms_alias.proofs.Asked.{write_told, read_told, in_turn_told}
use Rattle.ms_alias.proofs.laws.tests_told.Goals as goal

pub returns-clause-writes : goal.returns-clause-writes
returns-clause-writes c = write_told

pub returns-clause-reads : goal.returns-clause-reads
returns-clause-reads c = read_told

pub returns-clause-in_turn : goal.returns-clause-in_turn
returns-clause-in_turn c = in_turn_told
