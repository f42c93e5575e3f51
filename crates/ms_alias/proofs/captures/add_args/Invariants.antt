use Rattle.std.proofs.Common.{take}
use Rattle.ms_alias.specs.Building.{Adds, IsKeptAt}
use Rattle.ms_alias.proofs.captures.add_args.Given as goal

abbrev pub invariant-loop-k : goal.invariant-loop-k
invariant-loop-k l = Adds (IsKeptAt l.bases (take l.k l.args)) l.fn.marks l.marks
