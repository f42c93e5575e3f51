use Rattle.std.proofs.Common.{◌≡◌, drop}
use Rattle.ms_attrs.specs.Memory.{last_for}
use Rattle.ms_attrs.proofs.memory.last.Given as goal

-- the items so far have done their part
abbrev pub invariant-loop-item : goal.invariant-loop-item
invariant-loop-item l = last_for l.place l.access (drop l.item-index l.items) ≡ last_for l.place l.fn.otherwise l.items
