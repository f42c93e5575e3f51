use Rattle.std.proofs.Common.{◌≤◌, length}
use Rattle.ms_flow.specs.Cut.{place_before}
use Rattle.ms_build.specs.Changes.{IsChanged}
use Rattle.ms_update.specs.Dropped.{all_moved}
use Rattle.ms_update.proofs.dropping.move_all.Given as goal

-- the operands of the first blocks have moved
abbrev pub invariant-loop-b : goal.invariant-loop-b
invariant-loop-b l = IsChanged (all_moved l.flow.graph (place_before l.flow.before) l.fn.form l.b) l.fn.form l.form × (l.b ≤ length l.flow.graph)
