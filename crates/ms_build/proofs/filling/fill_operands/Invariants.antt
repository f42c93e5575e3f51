use Rattle.ms_build.specs.Changes.{IsChanged}
use Rattle.ms_build.proofs.Fill.{all_filled_below}
use Rattle.ms_build.proofs.filling.fill_operands.Given as goal

-- the operands of the first blocks are filled
abbrev pub invariant-loop-b : goal.invariant-loop-b
invariant-loop-b l = IsChanged (all_filled_below l.flow.graph l.fn.form l.b) l.fn.form l.form
