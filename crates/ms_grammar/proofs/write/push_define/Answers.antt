use Rattle.ms_grammar.specs.Form.{head_parts, brace_parts}
use Rattle.ms_grammar.specs.declared.keyword.Keyword.TheVariants.{Define}
use Rattle.ms_grammar.proofs.Printing.{text_behind}
use Rattle.ms_grammar.proofs.write.push_define.Goals as goal

pub returns : goal.returns
returns c =
    text_behind _ _ _ (head_parts Define c.args.head.now) brace_parts c.in_ok-push_head.ensures c.in_ok-push_brace.ensures
