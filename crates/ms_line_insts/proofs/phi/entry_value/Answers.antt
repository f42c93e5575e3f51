use Rattle.std.proofs.Common.{[], ◌∷◌}
use Rattle.ms_grammar.specs.Parts.{blank}
use Rattle.ms_grammar.specs.Form.{word_part, value_part}
use Rattle.ms_grammar.specs.Fits.{IsValue}
use Rattle.ms_grammar.specs.declared.keyword.Keyword.TheVariants as word
use Rattle.ms_line_insts.proofs.Fronts.{read_after}
use Rattle.ms_line_insts.proofs.phi.entry_value.Goals as goal

pub returns : goal.returns
returns c =
    read_after (IsValue c.args.ty) (λ v. value_part v ∷ []) (word_part word.OpenSquare ∷ blank ∷ []) c.args.line.now c.args.tokens.now c.in-Some.behind.now c.value_front.result c.in-Some.ensures c.value_front.ensures
