use Rattle.std.proofs.Common.{◌≡◌, ℕ, ◌<◌, Some}
use Rattle.std.specs.List.{slice_get}
use Rattle.ms_ir.specs.declared.names.Mark.{Mark}
use Rattle.ms_ir.specs.declared.inst.Arg.{Arg}
use Rattle.ms_validity.proofs.types.same_types.Given as goal

abbrev pub invariant-loop-k : goal.invariant-loop-k
invariant-loop-k l = (j : ℕ) (a : Arg) (m : Mark) → j < l.k → slice_get l.fn.args j ≡ Some a → slice_get l.fn.marks j ≡ Some m → a.ty ≡ m.ty
