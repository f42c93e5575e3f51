use Rattle.std.proofs.lemmas.Bool.{iff_false}
use Rattle.ms_edits.proofs.UseLemmas.{inst_told}
use Rattle.ms_edits.proofs.MissedLemmas.{user_gone, user_not}
use Rattle.ms_edits.proofs.moves.is_number_missed.Goals as goal

pub is_user_missed-requires-clause-has : goal.is_user_missed-requires-clause-has
is_user_missed-requires-clause-has c =
    (inst_told c.args.func.now c.args.l c.in-Some.inst.now c.has_operand.result c.has_operand.ensures).0 c.if-has_operand.true

pub returns-else-has_operand : goal.returns-else-has_operand
returns-else-has_operand c =
    user_not c.args.func.now c.numbered.ensures c.args.from c.args.to c.requires.moves c.args.l c.args.i.0 c.in-Some.inst.now c.in-Some.ensures.each (iff_false c.has_operand.ensures c.if-has_operand.false)

pub returns-in-None : goal.returns-in-None
returns-in-None c = user_gone c.args.func.now c.numbered.ensures c.args.from c.args.to c.requires.moves c.args.l c.args.i.0 c.in-None.ensures.found
