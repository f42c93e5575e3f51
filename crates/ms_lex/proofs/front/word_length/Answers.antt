use Rattle.std.proofs.Common.{sym, ◌∙◌}
use Rattle.ms_lex.specs.Bytes.{starts_word, continues_word}
use Rattle.ms_lex.proofs.Fronts.{opens_front, opens_none}
use Rattle.ms_lex.proofs.front.word_length.Goals as goal

pub returns-in-len1-up : goal.returns-in-len1-up
returns-in-len1-up c = rw c.word_run.ensures.run (opens_front starts_word continues_word c.args.bytes.now c.in-len1-up.len_at_least (sym c.starts_word.ensures ∙ c.if-starts_word.true))

pub returns-in_default-2 : goal.returns-in_default-2
returns-in_default-2 c = opens_none starts_word continues_word c.args.bytes.now c.in-len1-up.len_at_least (sym c.starts_word.ensures ∙ c.if-starts_word.false)
