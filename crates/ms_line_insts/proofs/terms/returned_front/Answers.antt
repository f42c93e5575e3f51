use Rattle.std.proofs.Common.{[], ◌∷◌}
use Rattle.ms_grammar.specs.Parts.{blank}
use Rattle.ms_grammar.specs.Form.{word_part}
use Rattle.ms_line_insts.specs.Front.{typed}
use Rattle.ms_line_insts.specs.Ends.{IsNumber}
use Rattle.ms_grammar.specs.declared.keyword.Keyword.TheVariants as word
use Rattle.ms_line_insts.proofs.Fronts.{read_after}
use Rattle.ms_line_insts.proofs.terms.returned_front.Goals as goal

pub returns : goal.returns
returns c =
    read_after IsNumber typed (word_part word.Ret ∷ blank ∷ []) c.args.line.now c.args.tokens.now c.in-Some.behind.now c.number_front.result c.in-Some.ensures c.number_front.ensures
