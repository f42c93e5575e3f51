use Rattle.std.proofs.Common.{◌≡◌, length}
use Rattle.ms_walk.specs.Turn.{AreMarkedTo}
use Rattle.ms_walk.proofs.turn.marks_past.Given as goal

abbrev pub invariant-loop-b : goal.invariant-loop-b
invariant-loop-b l = record {
  marked : AreMarkedTo l.func.blocks l.starts l.fn.home.0 l.fn.place l.b l.marks.items;
  made : length l.marks.items ≡ l.func.made;
}
