use Rattle.std.proofs.Common.{◌≡◌}
use Rattle.ms_build.specs.Changes.{IsChanged}
use Rattle.ms_build.proofs.Rules.{emptied_below}
use Rattle.ms_build.proofs.settling.empty_operands.Given as goal

-- the first operands are empty
abbrev pub invariant-loop-slot : goal.invariant-loop-slot
invariant-loop-slot l = IsChanged (emptied_below l.b l.slot) l.fn.form l.form × (l.form.waiting ≡ l.fn.form.waiting)
