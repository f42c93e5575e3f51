use Rattle.ms_alias.proofs.Queries.{writes_told, gone_writes}
use Rattle.ms_alias.proofs.alias.Alias.writes.Goals as goal

pub returns-in-Some : goal.returns-in-Some
returns-in-Some c = writes_told c.args.func.now c.args.self.now c.requires c.args.i c.in-Some.inst.now c.in-Some.ensures.found c.in-Some.ensures.each c.written_loc.result c.written_loc.ensures

pub returns-in-None : goal.returns-in-None
returns-in-None c = gone_writes c.args.func.now c.args.i c.in-None.ensures.found
