use Rattle.ms_grammar.specs.Form.{word_part}
use Rattle.ms_line_insts.proofs.Fronts.{spaced_lead}
use Rattle.ms_line_insts.proofs.groups.behind_lead.Goals as goal

pub returns : goal.returns
returns c =
    spaced_lead (word_part c.args.keyword) c.args.line.now c.args.tokens.now c.behind_word.result c.behind_word.ensures
