use Rattle.std.proofs.Common.{sym}
use Rattle.ms_script.proofs.ScopeLemmas.{local_place, local_none}
use Rattle.ms_script.proofs.lookup.Lookup.local.Goals as goal

pub returns-in-Some : goal.returns-in-Some
returns-in-Some c = sym (local_place c.args.self.now.func.now c.numbered.ensures c.args.name.now c.in-Some.l c.in-Some.ensures)

pub returns-in-None : goal.returns-in-None
returns-in-None c = sym (local_none c.args.self.now.func.now c.args.name.now c.in-None.ensures)
