use Rattle.std.proofs.Common.{◌≡◌, drop}
use Rattle.ms_attrs.specs.Memory.{all_joined}
use Rattle.ms_attrs.proofs.memory.join_all.Given as goal

-- the items so far have done their part
abbrev pub invariant-loop-item : goal.invariant-loop-item
invariant-loop-item l = all_joined l.access (drop l.item-index l.items) ≡ all_joined l.fn.default l.items
