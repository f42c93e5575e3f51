-- The columns of a root: where ranges begin that an instruction reads or writes through it, and where those end that it writes.
use Rattle.std.specs.Prelude.{◌≡◌, ◌⊎◌, ◌↔◌, ◌+ℤ◌, ℕ, ℤ, pos, List, [], ◌∷◌, Option, Some, None, Contains}
use Rattle.ms_ir.specs.declared.names.InstNo.{InstNo}
use Rattle.ms_ir.specs.Func.{FuncState}
use Rattle.ms_alias.specs.declared.loc.Root.{Root}
use Rattle.ms_alias.specs.declared.loc.Loc.TheVariants.{Bytes}
use Rattle.ms_alias.specs.Reaches.{ReadsLoc, WritesLoc}
use Rattle.ms_effects.specs.declared.effect.Span.{Span}

-- the bytes that instruction i reads through the root begin at c
abbrev pub IsStartBy : FuncState → InstNo → Root → ℤ → Type 0
IsStartBy f i r c = (len : ℕ) × ReadsLoc f i (Bytes r c len)

-- the bytes that it writes through the root begin or end at c
abbrev pub IsBoundBy : FuncState → InstNo → Root → ℤ → Type 0
IsBoundBy f i r c = (from : ℤ) × (len : ℕ) × WritesLoc f i (Bytes r from len) × ((c ≡ from) ⊎ (c ≡ (from +ℤ pos len)))

abbrev pub IsColumnBy : FuncState → InstNo → Root → ℤ → Type 0
IsColumnBy f i r c = IsStartBy f i r c ⊎ IsBoundBy f i r c

-- an instruction makes c a column of the root
abbrev pub IsColumn : FuncState → Root → ℤ → Type 0
IsColumn f r c = (i : InstNo) × IsColumnBy f i r c

-- where a range begins, and where it begins and ends
abbrev pub starts_of : Option Span → List ℤ
starts_of None = []
starts_of (Some s) = s.from ∷ []

abbrev pub bounds_of : Option Span → List ℤ
bounds_of None = []
bounds_of (Some s) = s.from ∷ (s.from +ℤ pos s.len) ∷ []

-- the numbers that are so are in the list now, besides those that were
abbrev pub AreAdded : (ℤ → Type 0) → List ℤ → List ℤ → Type 0
AreAdded P xs ys = (c : ℤ) → Contains ys c ↔ (Contains xs c ⊎ P c)
