use Rattle.ms_flow.specs.Cut.{place_before}
use Rattle.ms_build.specs.Changes.{IsChanged}
use Rattle.ms_update.proofs.Moved.{moved_below}
use Rattle.ms_update.proofs.dropping.move_block.Given as goal

-- the first operands have moved
abbrev pub invariant-loop-slot : goal.invariant-loop-slot
invariant-loop-slot l = IsChanged (moved_below l.flow.graph (place_before l.flow.before) l.fn.form l.b.0 l.slot) l.fn.form l.form
