use Rattle.std.proofs.lemmas.Bool.{iff_false}
use Rattle.ms_edits.proofs.MissedLemmas.{term_not, term_told}
use Rattle.ms_edits.proofs.moves.is_term_missed.Goals as goal

pub returns-then-is_term_operand : goal.returns-then-is_term_operand
returns-then-is_term_operand c =
    term_told (λ blocks e p. c.same_paths.ensures.paths blocks e p) c.args.func.now c.numbered.ensures c.args.from c.args.to c.requires.moves c.args.flow.now.graph c.requires.graph c.args.l
    c.args.c.0 c.args.term.now c.is_end_missed.result c.requires.block c.requires.term (c.is_term_operand.ensures.0 c.if-is_term_operand.true) c.is_end_missed.ensures

pub returns-else-is_term_operand : goal.returns-else-is_term_operand
returns-else-is_term_operand c =
    term_not (λ blocks e p. c.same_paths.ensures.paths blocks e p) c.args.func.now c.numbered.ensures c.args.from c.args.to c.requires.moves c.args.flow.now.graph c.requires.graph c.args.l
    c.args.c.0 c.args.term.now c.requires.term (iff_false c.is_term_operand.ensures c.if-is_term_operand.false)
