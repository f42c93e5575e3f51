use Rattle.std.proofs.Common.{sym, ◌∙◌}
use Rattle.std.specs.Char.{is_ascii_digit}
use Rattle.ms_lex.proofs.Fronts.{opens_front}
use Rattle.ms_lex.proofs.front.digits_length.Goals as goal

pub returns-in-len1-up : goal.returns-in-len1-up
returns-in-len1-up c = rw c.digit_run.ensures.run (opens_front is_ascii_digit is_ascii_digit c.args.bytes.now c.in-len1-up.len_at_least (sym c.is_ascii_digit.ensures.value ∙ c.if-is_ascii_digit.true))
