use Rattle.std.proofs.Common.{◌≡◌, Some, map}
use Rattle.ms_attrs.specs.Memory.{item_of, all_of}
use Rattle.ms_attrs.proofs.memory.items.Given as goal

-- the pieces so far are these items
abbrev pub invariant-loop-piece : goal.invariant-loop-piece
invariant-loop-piece l = all_of (map item_of (map (λ p. p.now) l.yielded)) ≡ Some l.list.items
