use Rattle.ms_build.proofs.Enter.{IsOrderedBelow}
use Rattle.ms_build.proofs.entering.in_order.Given as goal

-- the first blocks stand at their places
abbrev pub invariant-loop-b : goal.invariant-loop-b
invariant-loop-b l = IsOrderedBelow l.flow.graph l.b l.blocks.items
