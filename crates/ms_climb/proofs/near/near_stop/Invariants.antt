use Rattle.std.proofs.Common.{◌≤◌, ◌-◌, length}
use Rattle.ms_climb.specs.declared.near.TheConstants.{NEAR}
use Rattle.ms_climb.specs.Chains.{IsChain}
use Rattle.ms_climb.proofs.near.near_stop.Given as goal

-- the Defs that were passed lead to where the climb is
abbrev pub invariant-climbing : goal.invariant-climbing
invariant-climbing g l = record {
  chain : IsChain l.form (g.W.Writes.test l.counted) l.passed.items l.fn.from l.at;
  few : length l.passed.items ≤ NEAR;
}

-- each turn passes one
abbrev pub decreases-climbing : goal.decreases-climbing
decreases-climbing g l = NEAR - length l.passed.items
