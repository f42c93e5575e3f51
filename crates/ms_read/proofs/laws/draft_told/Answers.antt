use Rattle.ms_read.proofs.Told.{told_lines, told_numbers, told_places}
use Rattle.ms_read.proofs.Shapes.{draft_shape}
use Rattle.ms_read.proofs.laws.draft_told.Goals as goal

pub returns-clause-lines : goal.returns-clause-lines
returns-clause-lines c = told_lines

pub returns-clause-numbers : goal.returns-clause-numbers
returns-clause-numbers c = told_numbers

pub returns-clause-places : goal.returns-clause-places
returns-clause-places c = told_places

pub returns-clause-shape : goal.returns-clause-shape
returns-clause-shape c = draft_shape
