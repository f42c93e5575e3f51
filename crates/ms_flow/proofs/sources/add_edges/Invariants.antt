use Rattle.ms_flow.specs.Flow.{AreAdded}
use Rattle.ms_flow.proofs.sources.add_edges.Given as goal

abbrev pub invariant-loop-slot : goal.invariant-loop-slot
invariant-loop-slot l = AreAdded l.table l.fn.from l.slot l.initial.lists.items l.lists.items l.initial.in_slots.items l.in_slots.items
