use Rattle.std.proofs.Common.{◌≡◌, ◌<◌, ℕ, length}
use Rattle.std.specs.Prelude.{Contains}
use Rattle.ms_flow.specs.declared.sources.Source.{Source}
use Rattle.ms_flow.specs.Flow.{IsFine, sources_of}
use Rattle.ms_flow.proofs.order.is_reducible.Given as goal

-- the edges to the first blocks are fine
abbrev pub invariant-loop-b : goal.invariant-loop-b
invariant-loop-b l = (length l.walker.seen ≡ length l.table) × ((x : ℕ) → x < l.b → (e : Source) → Contains (sources_of l.table x) e → IsFine l.table e.from x)
