use Rattle.std.proofs.Common.{[], ◌∷◌}
use Rattle.ms_grammar.specs.Parts.{blank}
use Rattle.ms_grammar.specs.Form.{word_part, target_parts}
use Rattle.ms_grammar.specs.Fits.{IsNamed}
use Rattle.ms_grammar.specs.declared.keyword.Keyword.TheVariants as word
use Rattle.ms_line_insts.proofs.Fronts.{read_after}
use Rattle.ms_line_insts.proofs.terms.jump_front.Goals as goal

pub returns : goal.returns
returns c =
    read_after IsNamed (λ n. target_parts n) (word_part word.Br ∷ blank ∷ []) c.args.line.now c.args.tokens.now c.in-Some.behind.now c.target_front.result c.in-Some.ensures c.target_front.ensures
