use Rattle.ms_alias.proofs.Queries.{reads_told, gone_reads}
use Rattle.ms_alias.proofs.alias.Alias.reads.Goals as goal

pub returns-in-Some : goal.returns-in-Some
returns-in-Some c = reads_told c.args.func.now c.args.self.now c.requires c.args.i c.in-Some.inst.now c.in-Some.ensures.found c.in-Some.ensures.each c.read_loc.result c.read_loc.ensures

pub returns-in-None : goal.returns-in-None
returns-in-None c = gone_reads c.args.func.now c.args.i c.in-None.ensures.found
