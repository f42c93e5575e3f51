use Rattle.std.proofs.Common.{◌-◌, length}
use Rattle.ms_line.proofs.ParamLemmas.{IsSoFar}
use Rattle.ms_line.proofs.params.params.Given as goal

abbrev pub invariant-loop-params : goal.invariant-loop-params
invariant-loop-params l = IsSoFar l.line l.tokens l.params l.at

abbrev pub decreases-loop-params : goal.decreases-loop-params
decreases-loop-params l = length l.tokens - l.at
