use Rattle.ms_flow.specs.Walk.{is_seen}
use Rattle.ms_flow.specs.Flow.{AreListed}
use Rattle.ms_flow.proofs.sources.Sources.of.Given as goal

abbrev pub invariant-loop-from : goal.invariant-loop-from
invariant-loop-from l = AreListed (is_seen l.walker) l.table l.from l.lists.items l.in_slots.items
