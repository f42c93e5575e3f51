use Rattle.std.proofs.Common.{◌≡◌, ◌≤◌, ◌+◌, ◌*◌, drop}
use Rattle.ms_session.specs.Annotated.{uses_from}
use Rattle.ms_session.specs.Shown.{reached_in}
use Rattle.ms_session.proofs.counts.count_uses.Given as goal

-- the uses so far, and those of the rest
abbrev pub invariant-loop-b : goal.invariant-loop-b
invariant-loop-b l = record {
  all : l.uses + uses_from (reached_in l.flow.graph) l.b (drop l.b l.func.blocks) ≡ uses_from (reached_in l.flow.graph) 0 l.func.blocks;
  few : l.uses ≤ l.b * 4294967296;
}
