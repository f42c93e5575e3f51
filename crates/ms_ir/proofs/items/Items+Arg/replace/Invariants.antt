use Rattle.std.proofs.Common.{◌≡◌, ◌++◌, map, take, drop}
use Rattle.ms_ir.specs.Changes.{arg_with}
use Rattle.ms_ir.proofs.items.Items+Arg.replace.Given as goal

-- those that were passed are changed
abbrev pub invariant-loop-arg : goal.invariant-loop-arg
invariant-loop-arg l = l.arg-items ≡ map (arg_with l.l l.by) (take l.arg-index l.fn.self) ++ drop l.arg-index l.fn.self
