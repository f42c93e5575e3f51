use Rattle.ms_cache.proofs.Shifted.{shift_tables, shift_pointers, shift_writes, shift_reads, shift_locs}
use Rattle.ms_cache.proofs.laws.shift_kept.Goals as goal

pub returns-clause-tables : goal.returns-clause-tables
returns-clause-tables c = shift_tables

pub returns-clause-pointers : goal.returns-clause-pointers
returns-clause-pointers c = shift_pointers

pub returns-clause-writes : goal.returns-clause-writes
returns-clause-writes c = shift_writes

pub returns-clause-reads : goal.returns-clause-reads
returns-clause-reads c = shift_reads

pub returns-clause-locations : goal.returns-clause-locations
returns-clause-locations c = shift_locs
