use Rattle.ms_cache.proofs.Sourced.{source_tables, source_pointers, source_writes, source_reads, source_written, source_read}
use Rattle.ms_cache.proofs.laws.source_kept.Goals as goal

pub returns-clause-tables : goal.returns-clause-tables
returns-clause-tables c = source_tables

pub returns-clause-pointers : goal.returns-clause-pointers
returns-clause-pointers c = source_pointers

pub returns-clause-writes : goal.returns-clause-writes
returns-clause-writes c = source_writes

pub returns-clause-reads : goal.returns-clause-reads
returns-clause-reads c = source_reads

pub returns-clause-written : goal.returns-clause-written
returns-clause-written c = source_written

pub returns-clause-read : goal.returns-clause-read
returns-clause-read c = source_read
