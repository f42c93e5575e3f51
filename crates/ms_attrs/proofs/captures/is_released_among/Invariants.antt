use Rattle.std.proofs.Common.{◌≡◌, ◌≤◌, drop}
use Rattle.std.specs.List.{list_any}
use Rattle.ms_attrs.specs.Outer.{outer}
use Rattle.ms_attrs.specs.Captures.{releases}
use Rattle.ms_attrs.proofs.captures.is_released_among.Given as goal

-- none of the parts so far says so
abbrev pub invariant-loop-at : goal.invariant-loop-at
invariant-loop-at l = record {
  few : l.depth ≤ l.at;
  left : list_any (λ p. releases p.0 p.1) (outer l.depth (drop l.at l.parts)) ≡ list_any (λ p. releases p.0 p.1) (outer 0 l.parts);
}
