use Rattle.ms_lex.specs.Kinds.{is_digits}
use Rattle.ms_lex.proofs.Fronts.{behind_none}
use Rattle.ms_lex.proofs.front.group_length.Goals as goal

pub returns-in_err-digits_length : goal.returns-in_err-digits_length
returns-in_err-digits_length c = rw (c.from_residual-in_err-digits_length.ensures, c.in_ok-behind.ensures) (behind_none 35 is_digits _ c.in_err-digits_length.ensures)
