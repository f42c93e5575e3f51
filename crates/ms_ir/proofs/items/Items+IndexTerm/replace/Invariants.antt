use Rattle.std.proofs.Common.{◌≡◌, ◌++◌, map, take, drop}
use Rattle.ms_ir.specs.Changes.{index_with}
use Rattle.ms_ir.proofs.items.Items+IndexTerm.replace.Given as goal

-- those that were passed are changed
abbrev pub invariant-loop-term : goal.invariant-loop-term
invariant-loop-term l = l.term-items ≡ map (index_with l.l l.by) (take l.term-index l.fn.self) ++ drop l.term-index l.fn.self
