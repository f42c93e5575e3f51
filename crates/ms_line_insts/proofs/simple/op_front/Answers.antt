use Rattle.ms_grammar.specs.Words.{op_word}
use Rattle.ms_grammar.proofs.Opcodes.{op_one}
use Rattle.ms_line_insts.proofs.Fronts.{named_found, named_none}
use Rattle.ms_line_insts.proofs.simple.op_front.Goals as goal

pub returns-in-Some-op_at : goal.returns-in-Some-op_at
returns-in-Some-op_at c =
    named_found op_word op_one c.args.line.now c.args.tokens.now c.in-Some.first c.in-Some.rest.now c.in-Some-op_at.op c.in-Some.ensures.cells c.in-Some.ensures.behind c.in-Some-op_at.ensures

pub returns-in-None : goal.returns-in-None
returns-in-None c =
    named_none op_word c.args.line.now c.args.tokens.now c.in-Some.first c.in-Some.rest.now c.in-Some.ensures.cells c.in-None.ensures
