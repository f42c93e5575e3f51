use Rattle.std.proofs.Common.{[], ◌∷◌}
use Rattle.ms_grammar.specs.Parts.{blank}
use Rattle.ms_grammar.specs.Form.{word_part, type_part}
use Rattle.ms_line_insts.specs.Front.{Always}
use Rattle.ms_line_insts.proofs.Fronts.{option_after}
use Rattle.ms_line_insts.proofs.groups.type_lead.Goals as goal

pub returns : goal.returns
returns c =
    option_after Always (λ ty. type_part ty ∷ []) (word_part c.args.keyword ∷ blank ∷ []) c.args.line.now c.args.tokens.now c.in-Some.behind.now c.type_front.result c.in-Some.ensures c.type_front.ensures
