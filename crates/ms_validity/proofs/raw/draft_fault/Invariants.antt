use Rattle.ms_validity.specs.Raw.{LineHas}
use Rattle.ms_validity.specs.Told.{Tells}
use Rattle.ms_validity.proofs.ToldLemmas.{Before}
use Rattle.ms_validity.proofs.raw.draft_fault.Given as goal

abbrev pub invariant-loop-k : goal.invariant-loop-k
invariant-loop-k l = Tells (Before (LineHas l.names l.draft) l.k) l.found
