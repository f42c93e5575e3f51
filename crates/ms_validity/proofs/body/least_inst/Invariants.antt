use Rattle.ms_validity.specs.Told.{InstHas, Tells}
use Rattle.ms_validity.specs.View.{IsView}
use Rattle.ms_validity.proofs.ToldLemmas.{Before}
use Rattle.ms_validity.proofs.body.least_inst.Given as goal

abbrev pub invariant-loop-i : goal.invariant-loop-i
invariant-loop-i l = IsView l.func.blocks l.view × Tells (Before (InstHas l.phase l.m l.func l.lines) l.i) l.found
