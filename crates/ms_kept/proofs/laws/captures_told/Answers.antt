use Rattle.ms_cache.proofs.Shifted.{shift_pointers}
use Rattle.ms_kept.proofs.Captures.{captured_without, taken_told, none_differ}
use Rattle.ms_kept.proofs.laws.captures_told.Goals as goal

pub returns-clause-without : goal.returns-clause-without
returns-clause-without c = captured_without

pub returns-clause-taken : goal.returns-clause-taken
returns-clause-taken c = taken_told

pub returns-clause-moved : goal.returns-clause-moved
returns-clause-moved c = λ f g n b place s lt none d. none_differ f g (shift_pointers f g n b place s lt none).captured d
