use Rattle.std.proofs.Common.{◌≡◌, ◌++◌, map, take, drop}
use Rattle.ms_ir.specs.Changes.{parts_with}
use Rattle.ms_ir.proofs.changes.replace_in_parts.Given as goal

-- those that were passed are changed
abbrev pub invariant-loop-block : goal.invariant-loop-block
invariant-loop-block l = l.block-items ≡ map (parts_with l.l l.by) (take l.block-index l.fn.parts.items) ++ drop l.block-index l.fn.parts.items
