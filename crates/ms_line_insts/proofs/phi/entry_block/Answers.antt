use Rattle.std.proofs.Common.{[], ◌∷◌}
use Rattle.ms_grammar.specs.Parts.{blank}
use Rattle.ms_grammar.specs.Form.{word_part, local_part}
use Rattle.ms_grammar.specs.Fits.{IsNamed}
use Rattle.ms_grammar.specs.declared.keyword.Keyword.TheVariants as word
use Rattle.ms_line_insts.proofs.Fronts.{read_after}
use Rattle.ms_line_insts.proofs.phi.entry_block.Goals as goal

pub returns : goal.returns
returns c =
    read_after IsNamed (λ n. local_part n ∷ []) (word_part word.Comma ∷ blank ∷ []) c.args.line.now c.args.tokens.now c.in-Some.behind.now c.local_front.result c.in-Some.ensures c.local_front.ensures
