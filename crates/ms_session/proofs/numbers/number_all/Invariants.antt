use Rattle.std.proofs.Common.{◌≡◌, ◌++◌, drop, length}
use Rattle.ms_build.specs.Accesses.{has_phi}
use Rattle.ms_session.specs.Annotated.{numbered_from}
use Rattle.ms_session.specs.Shown.{reached_in}
use Rattle.ms_session.proofs.numbers.number_all.Given as goal

-- the numbers so far, and those of the rest behind them
abbrev pub invariant-loop-b : goal.invariant-loop-b
invariant-loop-b l = record {
  all : l.numbers.all ++ numbered_from (reached_in l.flow.graph) (has_phi l.form) l.b (drop l.b l.func.blocks)
      ≡ numbered_from (reached_in l.flow.graph) (has_phi l.form) 0 l.func.blocks;
  blocks : l.numbers.blocks ≡ length l.func.blocks;
  insts : l.numbers.insts ≡ l.func.made;
}
