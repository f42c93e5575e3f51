use Rattle.std.proofs.Common.{◌≡◌, ◌++◌, map, take, drop}
use Rattle.ms_ir.specs.Changes.{entry_with}
use Rattle.ms_ir.proofs.items.Items+Entry.replace.Given as goal

-- those that were passed are changed
abbrev pub invariant-loop-entry : goal.invariant-loop-entry
invariant-loop-entry l = l.entry-items ≡ map (entry_with l.l l.by) (take l.entry-index l.fn.self) ++ drop l.entry-index l.fn.self
