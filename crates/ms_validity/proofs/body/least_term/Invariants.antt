use Rattle.ms_validity.specs.Told.{TermHas, Tells}
use Rattle.ms_validity.specs.View.{IsView}
use Rattle.ms_validity.proofs.ToldLemmas.{Before}
use Rattle.ms_validity.proofs.body.least_term.Given as goal

abbrev pub invariant-loop-b : goal.invariant-loop-b
invariant-loop-b l = IsView l.func.blocks l.view × Tells (Before (TermHas l.phase l.func l.lines) l.b) l.found
