use Rattle.std.proofs.Common.{◌≡◌}
use Rattle.ms_flow.specs.Walk.{is_seen}
use Rattle.ms_flow.proofs.Sifted.{AreKeptTo}
use Rattle.ms_flow.proofs.sources.Sources.keep.Given as goal

abbrev pub invariant-loop-b : goal.invariant-loop-b
invariant-loop-b l = (l.self.in_slots ≡ l.initial.self.in_slots) × AreKeptTo (is_seen l.walker) l.c l.slot l.initial.self.lists.items l.initial.self.before.items l.b l.self.lists.items l.self.before.items
