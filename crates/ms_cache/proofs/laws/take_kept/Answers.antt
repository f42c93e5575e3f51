use Rattle.ms_cache.proofs.Taken.{take_tables, take_pointers, take_writes, take_reads, take_locs}
use Rattle.ms_cache.proofs.laws.take_kept.Goals as goal

pub returns-clause-tables : goal.returns-clause-tables
returns-clause-tables c = take_tables

pub returns-clause-pointers : goal.returns-clause-pointers
returns-clause-pointers c = take_pointers

pub returns-clause-writes : goal.returns-clause-writes
returns-clause-writes c = take_writes

pub returns-clause-reads : goal.returns-clause-reads
returns-clause-reads c = take_reads

pub returns-clause-locations : goal.returns-clause-locations
returns-clause-locations c = take_locs
