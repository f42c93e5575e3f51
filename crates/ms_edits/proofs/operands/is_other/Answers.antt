use Rattle.ms_edits.proofs.NameLemmas.{other_told, no_other}
use Rattle.ms_edits.proofs.operands.is_other.Goals as goal

pub returns-in-Some : goal.returns-in-Some
returns-in-Some c = other_told c.args.func.now c.args.l c.in-Some.ty c.args.written c.same_type.result c.in-Some.ensures.found c.in-Some.ensures.each c.same_type.ensures

pub returns-in-None : goal.returns-in-None
returns-in-None c = no_other c.args.func.now c.args.l c.args.written c.in-None.ensures.found
