use Rattle.ms_cache.proofs.Replaced.{replaced_tables, replaced_pointers, replaced_writes, replaced_reads, replaced_locs, replaced_there}
use Rattle.ms_cache.proofs.laws.replace_kept.Goals as goal

pub returns-clause-tables : goal.returns-clause-tables
returns-clause-tables c = replaced_tables

pub returns-clause-pointers : goal.returns-clause-pointers
returns-clause-pointers c = replaced_pointers

pub returns-clause-writes : goal.returns-clause-writes
returns-clause-writes c = replaced_writes

pub returns-clause-reads : goal.returns-clause-reads
returns-clause-reads c = replaced_reads

pub returns-clause-locations : goal.returns-clause-locations
returns-clause-locations c = replaced_locs

pub returns-clause-there : goal.returns-clause-there
returns-clause-there c = replaced_there
