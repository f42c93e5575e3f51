use Rattle.std.proofs.Common.{◌≡◌, ◌++◌, drop}
use Rattle.ms_ir.specs.Func.{insts_at}
use Rattle.ms_session.specs.Annotated.{def_events}
use Rattle.ms_ir.proofs.Along.{IsCursor}
use Rattle.ms_session.proofs.numbers.number_defs.Given as goal

-- the numbers so far, and those of the rest behind them
abbrev pub invariant-loop-place : goal.invariant-loop-place
invariant-loop-place l = record {
  all : l.numbers.all ++ def_events (drop l.place (insts_at l.func.blocks l.fn.b.0)) ≡ l.initial.numbers.all ++ def_events (insts_at l.func.blocks l.fn.b.0);
  blocks : l.numbers.blocks ≡ l.initial.numbers.blocks;
  insts : l.numbers.insts ≡ l.initial.numbers.insts;
  cursor : IsCursor l.func.blocks l.fn.b.0 l.place l.at;
}
