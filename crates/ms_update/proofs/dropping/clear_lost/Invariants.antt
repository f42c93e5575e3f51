use Rattle.std.proofs.Common.{◌≤◌, length}
use Rattle.ms_update.specs.Dropped.{AreCleared}
use Rattle.ms_update.proofs.Cleared.{IsLostBelow}
use Rattle.ms_update.proofs.dropping.clear_lost.Given as goal

-- the lost blocks among the first are cleared
abbrev pub invariant-loop-b : goal.invariant-loop-b
invariant-loop-b l = AreCleared l.func.blocks (λ c k. IsLostBelow l.flow.graph l.b c) (IsLostBelow l.flow.graph l.b) l.fn.form l.form × (l.b ≤ length l.flow.graph)
