use Rattle.ms_flow.proofs.Sifted.{AreWritten}
use Rattle.ms_flow.proofs.sources.number_list.Given as goal

abbrev pub invariant-loop-k : goal.invariant-loop-k
invariant-loop-k l = AreWritten l.list l.k l.initial.in_slots.items l.in_slots.items
