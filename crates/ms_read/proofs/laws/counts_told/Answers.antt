use Rattle.ms_read.proofs.Counts.{functions_are, insts_are, blocks_are}
use Rattle.ms_read.proofs.laws.counts_told.Goals as goal

pub returns-clause-functions : goal.returns-clause-functions
returns-clause-functions c = functions_are

pub returns-clause-insts : goal.returns-clause-insts
returns-clause-insts c = insts_are

pub returns-clause-blocks : goal.returns-clause-blocks
returns-clause-blocks c = blocks_are
