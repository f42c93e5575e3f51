use Rattle.ms_grammar.specs.Words.{cast_word}
use Rattle.ms_grammar.proofs.Opcodes.{cast_one}
use Rattle.ms_line_insts.proofs.Fronts.{named_found, named_none}
use Rattle.ms_line_insts.proofs.simple.cast_front.Goals as goal

pub returns-in-Some-cast_at : goal.returns-in-Some-cast_at
returns-in-Some-cast_at c =
    named_found cast_word cast_one c.args.line.now c.args.tokens.now c.in-Some.first c.in-Some.rest.now c.in-Some-cast_at.op c.in-Some.ensures.cells c.in-Some.ensures.behind c.in-Some-cast_at.ensures

pub returns-in-None : goal.returns-in-None
returns-in-None c =
    named_none cast_word c.args.line.now c.args.tokens.now c.in-Some.first c.in-Some.rest.now c.in-Some.ensures.cells c.in-None.ensures
