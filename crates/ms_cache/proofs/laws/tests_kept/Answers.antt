use Rattle.ms_cache.proofs.Told.{write_test, in_turn_test, read_test}
use Rattle.ms_cache.proofs.laws.tests_kept.Goals as goal

pub returns-clause-writes : goal.returns-clause-writes
returns-clause-writes c = write_test

pub returns-clause-in_turn : goal.returns-clause-in_turn
returns-clause-in_turn c = in_turn_test

pub returns-clause-reads : goal.returns-clause-reads
returns-clause-reads c = read_test
