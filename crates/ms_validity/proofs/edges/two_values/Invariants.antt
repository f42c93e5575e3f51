use Rattle.std.proofs.Common.{nat_eq}
use Rattle.std.specs.HashMap.{get}
use Rattle.ms_validity.proofs.EdgeLemmas.{IsFirst}
use Rattle.ms_validity.proofs.edges.two_values.Given as goal

abbrev pub invariant-loop-k : goal.invariant-loop-k
invariant-loop-k l = IsFirst l.entries l.k (get nat_eq l.first)
