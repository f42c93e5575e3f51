use Rattle.ms_edits.proofs.MissedLemmas.{operand_told}
use Rattle.ms_edits.proofs.moves.is_operand_missed.Goals as goal

pub returns : goal.returns
returns c =
    operand_told (λ blocks e p. c.same_paths.ensures.paths blocks e p) c.args.func.now c.numbered.ensures c.args.from c.args.to c.requires.moves c.args.flow.now.graph c.requires.graph c.args.l
    c.args.inst.now c.args.at.block c.args.at.place c.is_missed.result c.requires.has c.is_missed.ensures
