use Rattle.ms_grammar.specs.Words.{predicate_word}
use Rattle.ms_grammar.proofs.Opcodes.{predicate_one}
use Rattle.ms_line_insts.proofs.Fronts.{named_found, named_none}
use Rattle.ms_line_insts.proofs.simple.pred_front.Goals as goal

pub returns-in-Some-pred_at : goal.returns-in-Some-pred_at
returns-in-Some-pred_at c =
    named_found predicate_word predicate_one c.args.line.now c.args.tokens.now c.in-Some.first c.in-Some.rest.now c.in-Some-pred_at.pred c.in-Some.ensures.cells c.in-Some.ensures.behind c.in-Some-pred_at.ensures

pub returns-in-None : goal.returns-in-None
returns-in-None c =
    named_none predicate_word c.args.line.now c.args.tokens.now c.in-Some.first c.in-Some.rest.now c.in-Some.ensures.cells c.in-None.ensures
