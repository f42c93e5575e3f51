use Rattle.ms_lex.specs.Kinds.{is_word}
use Rattle.ms_lex.proofs.Fronts.{behind_none}
use Rattle.ms_lex.proofs.front.global_length.Goals as goal

pub returns-in_err-word_length : goal.returns-in_err-word_length
returns-in_err-word_length c = rw (c.from_residual-in_err-word_length.ensures, c.in_ok-behind.ensures) (behind_none 64 is_word _ c.in_err-word_length.ensures)
