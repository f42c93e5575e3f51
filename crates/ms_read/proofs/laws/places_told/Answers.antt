use Rattle.ms_read.proofs.Shapes as shapes
use Rattle.ms_read.proofs.laws.places_told.Goals as goal

pub returns-clause-shape : goal.returns-clause-shape
returns-clause-shape c = shapes.shape

pub returns-clause-walk : goal.returns-clause-walk
returns-clause-walk c = shapes.walk
