use Rattle.std.proofs.Math.Numerals.{one-add}
use Rattle.std.specs.List.{list_all}
use Rattle.ms_lex.specs.Bytes.{continues_word}
use Rattle.ms_lex.proofs.Fronts.{behind_front, run_front}
use Rattle.ms_lex.proofs.front.meta_length.Goals as goal

pub returns : goal.returns
returns c = rw (c.word_run.ensures.run, c.in_ok-behind.ensures, one-add) (behind_front 33 (list_all continues_word) _ _ (run_front continues_word _))
