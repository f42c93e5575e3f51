use Rattle.std.proofs.Common.{◌≡◌, ℕ, ◌<◌, Some}
use Rattle.std.specs.List.{slice_get}
use Rattle.ms_ir.specs.declared.names.Mark.{Mark}
use Rattle.ms_grammar.specs.declared.line.RawArg.{RawArg}
use Rattle.ms_script.proofs.call.same_types.Given as goal

abbrev pub invariant-loop-k : goal.invariant-loop-k
invariant-loop-k l = (j : ℕ) (a : RawArg) (m : Mark) → j < l.k → slice_get l.fn.args j ≡ Some a → slice_get l.fn.marks j ≡ Some m → a.ty ≡ m.ty
