use Rattle.ms_validity.specs.Faults.{IsIrreducible}
use Rattle.ms_validity.proofs.ListLemmas.{NoneBelow}
use Rattle.ms_validity.proofs.bodies.first_irreducible.Given as goal

abbrev pub invariant-loop-f : goal.invariant-loop-f
invariant-loop-f l = NoneBelow (IsIrreducible l.m) l.f
