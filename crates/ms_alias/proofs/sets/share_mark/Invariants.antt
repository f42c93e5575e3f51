use Rattle.std.proofs.Common.{◌≡◌, drop}
use Rattle.ms_alias.specs.Tables.{share_mark}
use Rattle.ms_alias.proofs.sets.share_mark.Given as goal

-- no mark is shared so far
abbrev pub invariant-loop-k : goal.invariant-loop-k
invariant-loop-k l = share_mark (drop l.k l.xs) (drop l.k l.ys) ≡ share_mark l.xs l.ys
