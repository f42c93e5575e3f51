use Rattle.ms_cache.proofs.Taken.{load_tables, load_pointers, load_writes, load_reads, load_locs}
use Rattle.ms_cache.proofs.laws.load_gone.Goals as goal

pub returns-clause-tables : goal.returns-clause-tables
returns-clause-tables c = load_tables

pub returns-clause-pointers : goal.returns-clause-pointers
returns-clause-pointers c = load_pointers

pub returns-clause-writes : goal.returns-clause-writes
returns-clause-writes c = load_writes

pub returns-clause-reads : goal.returns-clause-reads
returns-clause-reads c = load_reads

pub returns-clause-locations : goal.returns-clause-locations
returns-clause-locations c = load_locs
