use Rattle.ms_ir.proofs.Along.{IsCursor}
use Rattle.ms_walk.specs.Turn.{AreMarked}
use Rattle.ms_walk.proofs.turn.mark_block.Given as goal

abbrev pub invariant-loop-k : goal.invariant-loop-k
invariant-loop-k l = record {
  marked : AreMarked l.func.blocks l.starts l.fn.home.0 l.fn.place l.fn.b.0 l.k l.initial.marks.items l.marks.items;
  cursor : IsCursor l.func.blocks l.fn.b.0 l.k l.at;
}
