use Rattle.std.proofs.Common.{◌<◌, ℕ}
use Rattle.ms_ir.specs.Locals.{IsBlockNamed}
use Rattle.ms_ir.proofs.func.Func.find_block.Given as goal

-- no block that was passed has the name
abbrev pub invariant-loop-b : goal.invariant-loop-b
invariant-loop-b l = (a : ℕ) → a < l.b → IsBlockNamed l.self.blocks l.name a → ⊥
