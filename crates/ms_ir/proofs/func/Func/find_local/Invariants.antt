use Rattle.std.proofs.Common.{◌<◌}
use Rattle.ms_ir.specs.declared.names.LocalNo.{LocalNo}
use Rattle.ms_ir.specs.Locals.{HasName}
use Rattle.ms_ir.proofs.func.Func.find_local.Given as goal

-- no local that was passed has the name
abbrev pub invariant-loop-l : goal.invariant-loop-l
invariant-loop-l l = (k : LocalNo) → k.0 < l.l → HasName l.self k l.name → ⊥
