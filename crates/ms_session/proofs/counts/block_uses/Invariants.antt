use Rattle.std.proofs.Common.{◌≡◌, ◌≤◌, ◌+◌, drop}
use Rattle.ms_ir.specs.Func.{insts_at}
use Rattle.ms_session.specs.Annotated.{uses_in}
use Rattle.ms_ir.proofs.Along.{IsCursor}
use Rattle.ms_session.proofs.counts.block_uses.Given as goal

-- the uses so far, and those of the rest
abbrev pub invariant-loop-place : goal.invariant-loop-place
invariant-loop-place l = record {
  all : l.uses + uses_in (drop l.place (insts_at l.func.blocks l.fn.b.0)) ≡ uses_in (insts_at l.func.blocks l.fn.b.0);
  few : l.uses ≤ l.place;
  cursor : IsCursor l.func.blocks l.fn.b.0 l.place l.at;
}
