use Rattle.std.proofs.Common.{◌≡◌, ◌≤◌, ◌++◌, take, drop}
use Rattle.ms_attrs.specs.Outer.{inside}
use Rattle.ms_attrs.proofs.outer.inside.Given as goal

-- the parts so far stand inside
abbrev pub invariant-loop-at : goal.invariant-loop-at
invariant-loop-at l = record {
  few : l.depth ≤ l.at;
  so_far : take l.at l.parts ++ inside l.depth (drop l.at l.parts) ≡ inside 0 l.parts;
}
