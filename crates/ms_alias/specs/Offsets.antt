-- How far the getelementptrs of a function lead.
use Rattle.std.specs.Prelude.{◌≡◌, ◌≤ℤ◌, ◌-ℤ◌, ℕ, ℤ, pos, Some}
use Rattle.ms_ir.specs.declared.names.LocalNo.{LocalNo}
use Rattle.ms_ir.specs.Func.{FuncState}
use Rattle.ms_alias.specs.Roots.{Step, maker_of, step_by_maker}

-- at most so many bytes either way
abbrev pub IsNear : ℕ → ℤ → Type 0
IsNear limit z = ((pos 0 -ℤ pos limit) ≤ℤ z) × (z ≤ℤ pos limit)

-- the greatest offset of one getelementptr, either way
abbrev pub greatest_offset : ℕ
greatest_offset = 2147483648

-- no getelementptr's offset passes its limit
abbrev pub AreOffsetsNear : FuncState → Type 0
AreOffsetsNear f = (l : LocalNo) (s : Step) → step_by_maker (maker_of f l) ≡ Some s → IsNear greatest_offset s.bytes
