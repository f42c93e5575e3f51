use Rattle.std.proofs.Common.{[], ◌∷◌}
use Rattle.ms_grammar.specs.Parts.{blank}
use Rattle.ms_grammar.specs.Form.{word_part, type_part}
use Rattle.ms_grammar.specs.declared.keyword.Keyword.TheVariants as word
use Rattle.ms_ir.specs.declared.names.Ty.TheVariants.{I64}
use Rattle.ms_line_insts.proofs.Fronts.{lead_join}
use Rattle.ms_line_insts.proofs.ArgLemmas.{read_length}
use Rattle.ms_line_insts.proofs.calls.length_front.Goals as goal

pub returns-in_default-behind_type : goal.returns-in_default-behind_type
returns-in_default-behind_type c =
    λ n ps g h. c.in_default-behind_type.ensures _ (c.in-Some.ensures.back _ h)

pub returns : goal.returns
returns c =
    read_length (word_part word.Comma ∷ blank ∷ type_part I64 ∷ blank ∷ []) c.args.line.now c.args.tokens.now c.in-Some-behind_type.at_count.now c.count_front.result (lead_join (word_part word.Comma ∷ blank ∷ []) (type_part I64 ∷ blank ∷ []) c.args.line.now c.args.tokens.now c.in-Some.at_type.now c.in-Some-behind_type.at_count.now c.in-Some.ensures c.in-Some-behind_type.ensures) c.count_front.ensures
