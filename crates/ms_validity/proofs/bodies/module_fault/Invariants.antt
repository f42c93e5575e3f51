use Rattle.std.proofs.Common.{◌≡◌, ◌≤◌, length, take}
use Rattle.std.specs.List.{flat_map}
use Rattle.ms_validity.specs.Faults.{body_there}
use Rattle.ms_validity.specs.Told.{PlaceHas, Tells}
use Rattle.ms_validity.proofs.ToldLemmas.{Before}
use Rattle.ms_validity.proofs.bodies.module_fault.Given as goal

abbrev pub invariant-loop-f : goal.invariant-loop-f
invariant-loop-f l = (l.place ≤ l.f) × (l.place ≡ length (flat_map body_there (take l.f l.m.bodies))) × Tells (Before (PlaceHas l.phase l.m l.lines) l.place) l.found
