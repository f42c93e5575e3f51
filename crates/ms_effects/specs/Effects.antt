-- What an instruction does to the bytes of a root: which it may read, and which it must write.
use Rattle.std.specs.Prelude.{◌≡◌, ◌↔◌, ℕ, ℤ, Option, Some}
use Rattle.ms_ir.specs.Func.{FuncState}
use Rattle.ms_meaning.specs.Memory.{HoldsByte}
use Rattle.ms_alias.specs.declared.loc.Root.{Root}
use Rattle.ms_alias.specs.declared.loc.Loc.{Loc}
use Rattle.ms_alias.specs.declared.loc.Loc.TheVariants.{Bytes}
use Rattle.ms_alias.specs.Meeting.{MayRead, MustWrite}
use Rattle.ms_effects.specs.declared.effect.Span.{Span}
use Rattle.ms_effects.specs.declared.effect.Reads.{Reads}
use Rattle.ms_effects.specs.declared.effect.Reads.TheVariants.{Nothing as ReadsNothing, All as ReadsAll, Range as ReadsRange}
use Rattle.ms_effects.specs.declared.effect.Writes.{Writes}
use Rattle.ms_effects.specs.declared.effect.Writes.TheVariants.{Nothing as WritesNothing, Range as WritesRange}

-- byte k is among those that are read
abbrev pub IsAmongRead : Reads → ℤ → Type 0
IsAmongRead ReadsNothing k = ⊥
IsAmongRead ReadsAll k = Unit {0}
IsAmongRead (ReadsRange s) k = HoldsByte s.from s.len k

-- byte k is among those that are written
abbrev pub IsAmongWritten : Writes → ℤ → Type 0
IsAmongWritten WritesNothing k = ⊥
IsAmongWritten (WritesRange s) k = HoldsByte s.from s.len k

-- these are the bytes of the root that instruction i may read, and those that it must write
abbrev pub AreRead : FuncState → ℕ → Root → Reads → Type 0
AreRead f i r reads = (k : ℤ) → MayRead f i (Bytes r k 1) ↔ IsAmongRead reads k

abbrev pub AreWritten : FuncState → ℕ → Root → Writes → Type 0
AreWritten f i r writes = (k : ℤ) → MustWrite f i r k ↔ IsAmongWritten writes k

-- the range is found exactly where the location is these bytes of the root
abbrev pub IsRangeOf : Option Span → Option Loc → Root → Type 0
IsRangeOf found loc r = (from : ℤ) (len : ℕ) → (found ≡ Some (record { from = from; len = len })) ↔ (loc ≡ Some (Bytes r from len))
