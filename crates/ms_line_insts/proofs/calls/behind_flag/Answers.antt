use Rattle.std.proofs.Common.{[], ◌∷◌}
use Rattle.ms_grammar.specs.Parts.{blank}
use Rattle.ms_grammar.specs.Form.{word_part, type_part}
use Rattle.ms_grammar.specs.declared.keyword.Keyword.TheVariants as word
use Rattle.ms_ir.specs.declared.names.Ty.TheVariants.{I1}
use Rattle.ms_line_insts.proofs.Fronts.{lead_join, leads_after}
use Rattle.ms_line_insts.proofs.calls.behind_flag.Goals as goal

pub returns-in_default-behind_type : goal.returns-in_default-behind_type
returns-in_default-behind_type c =
    λ ps h. c.in_default-behind_type.ensures _ (c.in-Some.ensures.back _ h)

pub returns-in_default-behind_word : goal.returns-in_default-behind_word
returns-in_default-behind_word c =
    λ ps h. c.in_default-behind_word.ensures _ (c.in-Some-behind_type.ensures.back _ (c.in-Some.ensures.back _ h))

pub returns : goal.returns
returns c =
    leads_after (word_part word.Comma ∷ blank ∷ type_part I1 ∷ blank ∷ word_part word.False ∷ []) (word_part word.Close ∷ []) c.args.line.now c.args.tokens.now c.in-Some-behind_word.at_close.now c.behind_word-2.result
    (lead_join (word_part word.Comma ∷ blank ∷ type_part I1 ∷ blank ∷ []) (word_part word.False ∷ []) c.args.line.now c.args.tokens.now c.in-Some-behind_type.at_false.now c.in-Some-behind_word.at_close.now
    (lead_join (word_part word.Comma ∷ blank ∷ []) (type_part I1 ∷ blank ∷ []) c.args.line.now c.args.tokens.now c.in-Some.at_type.now c.in-Some-behind_type.at_false.now c.in-Some.ensures c.in-Some-behind_type.ensures) c.in-Some-behind_word.ensures) c.behind_word-2.ensures
