use Rattle.ms_validity.specs.Told.{as_operand}
use Rattle.ms_validity.proofs.TypeLemmas.{other_told, no_local_told}
use Rattle.ms_validity.proofs.types.is_other.Goals as goal

pub returns-in-Some : goal.returns-in-Some
returns-in-Some c =
    other_told c.args.func.now (as_operand c.args.o) c.in-Local.l c.in-Some.ty c.same_type.result c.in-Local.is c.in-Some.ensures.found c.in-Some.ensures.each c.same_type.ensures

pub returns-in-None : goal.returns-in-None
returns-in-None c = no_local_told c.args.func.now (as_operand c.args.o) c.in-Local.l c.in-Local.is c.in-None.ensures.found
