-- Which objects of a run the function's text speaks of.
use Rattle.std.specs.Prelude.{◌≡◌, ◌<◌, ◌⊎◌, ℕ, pos, Some}
use Rattle.ms_ir.specs.declared.names.LocalNo.{LocalNo}
use Rattle.ms_ir.specs.Func.{FuncState}
use Rattle.ms_alias.specs.Bases.{Base, Alloca, Argument, Object, Outside, Hidden, IsAllocaLocal}
use Rattle.ms_alias.specs.Captured.{IsCaptured}
use Rattle.ms_meaning.specs.Values.{Pointer}
use Rattle.ms_meaning.specs.States.{State}

-- The object is one that the base stands for: an alloca its own, a global its own outer object, arguments and what is outside any outer object.
abbrev pub Denotes : FuncState → State → Base → ℕ → Type 0
Denotes f s (Alloca l) o = IsAllocaLocal f l × (s.locals l.0 ≡ Some (Pointer o (pos 0)))
Denotes f s (Argument l) o = o < s.outer
Denotes f s (Object g) o = (o ≡ g.0) × (o < s.outer)
Denotes f s Outside o = o < s.outer
Denotes f s Hidden o = ⊥

-- an outer object, or that of a captured alloca
abbrev pub IsKnownObject : FuncState → State → ℕ → Type 0
IsKnownObject f s o = (o < s.outer) ⊎ ((l : LocalNo) × IsCaptured f l × Denotes f s (Alloca l) o)
