use Rattle.std.proofs.Common.{◌≡◌, map, take}
use Rattle.ms_ir.specs.Sound.{from_of}
use Rattle.ms_validity.proofs.edges.froms.Given as goal

abbrev pub invariant-loop-entry : goal.invariant-loop-entry
invariant-loop-entry l = l.froms.items ≡ map from_of (take l.entry-index l.entries)
