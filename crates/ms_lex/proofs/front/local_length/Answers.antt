use Rattle.std.proofs.Math.Numerals.{one-add}
use Rattle.ms_lex.specs.Kinds.{is_name}
use Rattle.ms_lex.proofs.Fronts.{behind_front, behind_none}
use Rattle.ms_lex.proofs.front.local_length.Goals as goal

pub returns-in_err-name_length : goal.returns-in_err-name_length
returns-in_err-name_length c = rw (c.from_residual-in_err-name_length.ensures, c.in_ok-behind.ensures) (behind_none 37 is_name _ c.in_err-name_length.ensures)

pub returns : goal.returns
returns c = rw (c.in_ok-behind.ensures, one-add) (behind_front 37 is_name _ _ c.in_ok-name_length.ensures)
