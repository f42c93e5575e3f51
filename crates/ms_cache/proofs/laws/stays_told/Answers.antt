use Rattle.ms_cache.proofs.Filtered.{left_told, left_once, left_one}
use Rattle.ms_cache.proofs.laws.stays_told.Goals as goal

pub returns-clause-members : goal.returns-clause-members
returns-clause-members c = λ f e old new t x. left_told f e old new t x

pub returns-clause-once : goal.returns-clause-once
returns-clause-once c = λ f e old new t once. left_once f e old new t once

pub returns-clause-one : goal.returns-clause-one
returns-clause-one c = λ f e old a b s t. left_one f e old a b s t
