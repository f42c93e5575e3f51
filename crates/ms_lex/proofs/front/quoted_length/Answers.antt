use Rattle.ms_lex.specs.Kinds.{is_quotation}
use Rattle.ms_lex.proofs.Fronts.{behind_none}
use Rattle.ms_lex.proofs.front.quoted_length.Goals as goal

pub returns-in_err-quotation_length : goal.returns-in_err-quotation_length
returns-in_err-quotation_length c = rw (c.from_residual-in_err-quotation_length.ensures, c.in_ok-behind.ensures) (behind_none 34 is_quotation _ c.in_err-quotation_length.ensures)
