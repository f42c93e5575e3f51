-- What indices of a getelementptr add to its offset.
use Rattle.std.specs.Prelude.{◌^◌, ◌-◌, ℕ, ℤ, pos, ◌+ℤ◌, ◌-ℤ◌, ◌*ℤ◌, List, [], ◌∷◌, if◌then◌else◌, nat_lt}
use Rattle.ms_ir.specs.declared.names.Ty.{Ty}
use Rattle.ms_ir.specs.declared.inst.Val.{Val}
use Rattle.ms_ir.specs.declared.inst.Val.TheVariants.{Num, Local, Global}
use Rattle.ms_ir.specs.declared.inst.IndexTerm.{IndexTerm}
use Rattle.ms_ir.specs.Types.{bits}

-- a number of a type, from -2^(M-1) to 2^(M-1) - 1
abbrev pub signed_of : Ty → ℕ → ℤ
signed_of ty n = if nat_lt n (2 ^ (bits ty - 1)) then pos n else pos n -ℤ pos (2 ^ bits ty)

-- a number adds its signed value times the scale, and a local nothing
abbrev pub added_by : Val → ℕ → ℤ
added_by (Num ty n) scale = signed_of ty n *ℤ pos scale
added_by (Local l) scale = pos 0
added_by (Global g) scale = pos 0

abbrev pub added_in : List IndexTerm → ℤ
added_in [] = pos 0
added_in (t ∷ ts) = added_by t.val t.scale +ℤ added_in ts
