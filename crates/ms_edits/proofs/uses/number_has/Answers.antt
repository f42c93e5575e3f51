use Rattle.ms_edits.proofs.UseLemmas.{inst_told, no_number, number_told}
use Rattle.ms_edits.proofs.uses.number_has.Goals as goal

pub returns-in-Some : goal.returns-in-Some
returns-in-Some c =
    number_told c.args.func.now.blocks c.args.i.0 c.args.l c.in-Some.inst.now c.has_operand.result c.in-Some.ensures.found c.in-Some.ensures.each
    (inst_told c.args.func.now c.args.l c.in-Some.inst.now c.has_operand.result c.has_operand.ensures)

pub returns-in-None : goal.returns-in-None
returns-in-None c = no_number c.args.func.now.blocks c.args.i.0 c.args.l c.in-None.ensures.found
