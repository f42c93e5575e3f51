use Rattle.std.proofs.Common.{◌≡◌, ◌≤◌, drop}
use Rattle.ms_attrs.specs.Outer.{outer}
use Rattle.ms_attrs.specs.Effects.{both, all_given}
use Rattle.ms_attrs.proofs.effects.given_among.Given as goal

-- the parts so far have given these flags
abbrev pub invariant-loop-at : goal.invariant-loop-at
invariant-loop-at l = record {
  few : l.depth ≤ l.at;
  so_far : both l.effects (all_given (outer l.depth (drop l.at l.parts))) ≡ all_given (outer 0 l.parts);
}
