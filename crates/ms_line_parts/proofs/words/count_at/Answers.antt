use Rattle.ms_lex.specs.declared.token.TokenKind.TheVariants.{Number}
use Rattle.ms_line_parts.proofs.OneKind.{only_kind}
use Rattle.ms_line_parts.proofs.words.count_at.Goals as goal

pub returns-in_default : goal.returns-in_default
returns-in_default c = λ n is. c.in_default.not-Number (only_kind c.args.token.kind Number _ c.requires.bytes is.spelled)
