-- A getelementptr of a line, some of whose locals among the indices have become numbers.
use Rattle.std.specs.Prelude.{◌≡◌, ◌<◌, ◌^◌, ℕ, ℤ, pos, ◌+ℤ◌, ◌*ℤ◌, Bool, true, false, List, [], ◌∷◌, map, filter}
use Rattle.ms_ir.specs.declared.names.Ty.{Ty}
use Rattle.ms_ir.specs.Types.{bits}
use Rattle.ms_grammar.specs.Numbers.{number_text}
use Rattle.ms_grammar.specs.Parts.{filled}
use Rattle.ms_grammar.specs.Fits.{IsNamed}
use Rattle.ms_grammar.specs.declared.line.RawVal.{RawVal}
use Rattle.ms_grammar.specs.declared.line.RawVal.TheVariants.{Num, Local, Global}
use Rattle.ms_grammar.specs.declared.line.RawIndex.{RawIndex}
use Rattle.ms_grammar.specs.declared.line.RawInst.{RawInst}
use Rattle.ms_grammar.specs.declared.line.RawInst.TheVariants.{Gep, Step}
use Rattle.ms_reread.specs.Added.{signed_of}

-- what an index adds to the offset
abbrev pub raw_added_by : RawVal → ℕ → ℤ
raw_added_by (Num ty n) scale = signed_of ty n *ℤ pos scale
raw_added_by (Local n) scale = pos 0
raw_added_by (Global n) scale = pos 0

abbrev pub raw_added_in : List RawIndex → ℤ
raw_added_in [] = pos 0
raw_added_in (t ∷ ts) = raw_added_by t.val t.scale +ℤ raw_added_in ts

-- whether an index is no number
abbrev pub is_open_value : RawVal → Bool
is_open_value (Num ty n) = false
is_open_value (Local n) = true
is_open_value (Global n) = true

abbrev pub is_open_index : RawIndex → Bool
is_open_index t = is_open_value t.val

-- what stands in the place of an index in the kept text: a number, or a percent sign
abbrev pub kept_value : RawVal → List ℕ
kept_value (Num ty n) = number_text ty n
kept_value (Local n) = 37 ∷ []
kept_value (Global n) = 37 ∷ []

abbrev pub kept_index : RawIndex → List ℕ
kept_index t = kept_value t.val

abbrev pub raw_step_of : RawVal → ℤ → List RawIndex → List ℕ → List ℕ → List ℕ → RawInst
raw_step_of base offset [] head index tail = Gep base offset head index tail
raw_step_of base offset (t ∷ ts) head index tail = Step base offset (t ∷ ts) head index tail

-- a getelementptr as it is read where it is printed: numbers count in its offset and stand in its kept text, and where all indices are numbers no term is left
abbrev pub raw_joined : RawVal → ℤ → List RawIndex → List ℕ → List ℕ → List ℕ → RawInst
raw_joined base offset terms head index tail =
    raw_step_of base (offset +ℤ raw_added_in terms) (filter is_open_index terms) head (filled (map kept_index terms) index) tail

-- a named local, or a number of a type
abbrev pub IsLocalOrNumber : Ty → RawVal → Type 0
IsLocalOrNumber ty (Num own k) = (own ≡ ty) × (k < 2 ^ bits ty)
IsLocalOrNumber ty (Local n) = IsNamed n
IsLocalOrNumber ty (Global n) = ⊥

-- an index with another value
abbrev pub IsRenewed : RawIndex → RawIndex → Type 0
IsRenewed was t = (t.ty ≡ was.ty) × (t.scale ≡ was.scale) × IsLocalOrNumber was.ty t.val

abbrev pub AreRenewed : List RawIndex → List RawIndex → Type 0
AreRenewed [] [] = Unit {0}
AreRenewed [] (t ∷ ts) = ⊥
AreRenewed (was ∷ more) [] = ⊥
AreRenewed (was ∷ more) (t ∷ ts) = IsRenewed was t × AreRenewed more ts
