use Rattle.std.proofs.Common.{◌≡◌, ◌<◌, ℕ, length}
use Rattle.std.specs.Prelude.{slice_get, Some}
use Rattle.ms_flow.specs.declared.sources.Source.{Source}
use Rattle.ms_flow.specs.Flow.{IsFine}
use Rattle.ms_flow.proofs.order.are_fine.Given as goal

-- the first edges are fine
abbrev pub invariant-loop-k : goal.invariant-loop-k
invariant-loop-k l = (length l.walker.seen ≡ length l.table) × ((i : ℕ) (e : Source) → i < l.k → slice_get l.list i ≡ Some e → IsFine l.table e.from l.fn.to)
