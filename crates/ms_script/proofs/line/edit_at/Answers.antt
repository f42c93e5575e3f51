use Rattle.ms_script.specs.Lines.{block_of, number_of}
use Rattle.ms_script.proofs.line.edit_at.Goals as goal

pub returns-in-Ok-None-clause-err : goal.returns-in-Ok-None-clause-err
returns-in-Ok-None-clause-err c = λ edit h. (rw c.in-Ok-None.field-0-is at c.in-Ok-None.ensures.spot) (block_of edit) (number_of edit) h.rest h.spot_is
