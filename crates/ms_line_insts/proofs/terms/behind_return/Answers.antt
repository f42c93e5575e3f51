use Rattle.std.proofs.Common.{[], ◌∷◌}
use Rattle.ms_grammar.specs.Parts.{blank}
use Rattle.ms_grammar.specs.Form.{word_part}
use Rattle.ms_grammar.specs.declared.keyword.Keyword.TheVariants as word
use Rattle.ms_line_insts.proofs.Fronts.{leads_after}
use Rattle.ms_line_insts.proofs.terms.behind_return.Goals as goal

pub returns : goal.returns
returns c =
    leads_after (word_part word.Ret ∷ blank ∷ []) (word_part word.Void ∷ []) c.args.line.now c.args.tokens.now c.in-Some.at_void.now c.behind_word.result c.in-Some.ensures c.behind_word.ensures
