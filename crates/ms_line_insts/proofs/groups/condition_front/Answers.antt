use Rattle.std.proofs.Common.{[], ◌∷◌}
use Rattle.ms_grammar.specs.Parts.{blank}
use Rattle.ms_grammar.specs.Form.{word_part, typed_parts}
use Rattle.ms_grammar.specs.Fits.{IsValue}
use Rattle.ms_ir.specs.declared.names.Ty.TheVariants.{I1}
use Rattle.ms_line_insts.proofs.Fronts.{read_after}
use Rattle.ms_line_insts.proofs.groups.condition_front.Goals as goal

pub returns : goal.returns
returns c =
    read_after (IsValue I1) (λ v. typed_parts I1 v) (word_part c.args.keyword ∷ blank ∷ []) c.args.line.now c.args.tokens.now c.in-Some.behind.now c.given_front.result c.in-Some.ensures c.given_front.ensures
