use Rattle.std.proofs.Common.{◌-◌, length}
use Rattle.ms_flow.specs.Loops.{AreLow}
use Rattle.ms_flow.proofs.loops.lows.Given as goal

-- the blocks that were left first have their lows
abbrev pub invariant-loop-k : goal.invariant-loop-k
invariant-loop-k l = AreLow l.table (length l.left - l.k) l.lows.items
