use Rattle.ms_cache.proofs.Told.{movable_idle, one_idle}
use Rattle.ms_cache.proofs.laws.makes_none.Goals as goal

pub returns-clause-movable : goal.returns-clause-movable
returns-clause-movable c = movable_idle

pub returns-clause-one : goal.returns-clause-one
returns-clause-one c = one_idle
