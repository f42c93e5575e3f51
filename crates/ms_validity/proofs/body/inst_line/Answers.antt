use Rattle.ms_validity.proofs.BodyLemmas.{nowhere_told}
use Rattle.ms_validity.proofs.body.inst_line.Goals as goal

pub returns-in-None-clause-told : goal.returns-in-None-clause-told
returns-in-None-clause-told c = nowhere_told c.args.phase c.args.m.now c.args.func.now c.args.lines.now c.args.i.0 c.in-None.ensures.found
