use Rattle.ms_flow.proofs.Sifted.{AreOwnFor}
use Rattle.ms_flow.proofs.sources.own_places.Given as goal

abbrev pub invariant-loop-b : goal.invariant-loop-b
invariant-loop-b l = AreOwnFor l.lists l.b l.rows.items
