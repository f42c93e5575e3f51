use Rattle.std.proofs.Common.{◌≡◌, drop}
use Rattle.ms_attrs.specs.Effects.{line_of}
use Rattle.ms_attrs.proofs.effects.line_for.Given as goal

-- none of the groups so far is the one
abbrev pub invariant-loop-group : goal.invariant-loop-group
invariant-loop-group l = line_of (drop l.group-index l.group-items) l.digits ≡ line_of l.groups l.digits
