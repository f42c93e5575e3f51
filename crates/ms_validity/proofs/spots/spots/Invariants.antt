use Rattle.std.proofs.Common.{◌≡◌, ◌<◌, ℕ, Some, length}
use Rattle.std.specs.List.{slice_get}
use Rattle.ms_ir.specs.Func.{Placed, insts_at}
use Rattle.ms_validity.specs.Tables.{spot_at}
use Rattle.ms_validity.proofs.spots.spots.Given as goal

abbrev pub invariant-loop-b : goal.invariant-loop-b
invariant-loop-b l = (length l.spots.items ≡ l.func.made)
    × ((b k : ℕ) (x : Placed) → b < l.b → slice_get (insts_at l.func.blocks b) k ≡ Some x → slice_get l.spots.items x.number ≡ Some (spot_at b k))
