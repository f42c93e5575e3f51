-- When two reaches may have a byte in common, and so which instructions may write or read a location, or must write a byte.
use Rattle.std.specs.Prelude.{◌≡◌, ◌<◌, ◌⊎◌, ℕ, ℤ}
use Rattle.ms_ir.specs.Func.{Placed, FuncState, IsAt}
use Rattle.ms_meaning.specs.Memory.{HoldsByte}
use Rattle.ms_alias.specs.declared.loc.Root.{Root}
use Rattle.ms_alias.specs.declared.loc.Loc.{Loc}
use Rattle.ms_alias.specs.Roots.{IsFixed, IsTurnedBy}
use Rattle.ms_alias.specs.Bases.{Base, Alloca, Argument, Object, Outside, Hidden, HasBase}
use Rattle.ms_alias.specs.Reaches.{Reach, Span, Called, IsRead, IsWritten, IsReachOf, IsReached}

-- Two bases may be one object: an alloca is itself alone, and so is a global among globals; arguments and memory outside may be
-- each other and any global; hidden memory is itself alone.
abbrev pub MayBeOne : Base → Base → Type 0
MayBeOne (Alloca k) (Alloca l) = k ≡ l
MayBeOne (Object g) (Object h) = g ≡ h
MayBeOne (Object g) (Argument l) = Unit {0}
MayBeOne (Object g) Outside = Unit {0}
MayBeOne (Argument l) (Object g) = Unit {0}
MayBeOne (Argument k) (Argument l) = Unit {0}
MayBeOne (Argument l) Outside = Unit {0}
MayBeOne Outside (Object g) = Unit {0}
MayBeOne Outside (Argument l) = Unit {0}
MayBeOne Outside Outside = Unit {0}
MayBeOne Hidden Hidden = Unit {0}
MayBeOne _ _ = ⊥

-- byte locations with one fixed root
abbrev pub HaveOneRoot : FuncState → Reach → Reach → Type 0
HaveOneRoot f (Span r from len) (Span s at size) = (r ≡ s) × IsFixed f r
HaveOneRoot f _ _ = ⊥

abbrev pub ShareByte : Reach → Reach → Type 0
ShareByte (Span r from len) (Span s at size) = (k : ℤ) × HoldsByte from len k × HoldsByte at size k
ShareByte _ _ = ⊥

-- a byte location has a byte at least
abbrev pub HasLength : Reach → Type 0
HasLength (Span r from len) = 0 < len
HasLength (Called args other hidden) = Unit {0}

-- a base of one and a base of the other may be one object
abbrev pub ShareBase : FuncState → Reach → Reach → Type 0
ShareBase f u v = (b : Base) × (c : Base) × IsReached f u b × IsReached f v c × MayBeOne b c

-- Byte locations with one fixed root meet where they share a byte. All others meet where neither is without a byte and they
-- share a base.
abbrev pub Meet : FuncState → Reach → Reach → Type 0
Meet f u v = (HaveOneRoot f u v × ShareByte u v) ⊎ ((HaveOneRoot f u v → ⊥) × HasLength u × HasLength v × ShareBase f u v)

-- what instruction i writes meets the location
abbrev pub MayWrite : FuncState → ℕ → Loc → Type 0
MayWrite f i loc = (b : ℕ) × (place : ℕ) × (x : Placed) × IsAt f.blocks i b place x × (u : Reach) × (v : Reach) × IsWritten f x.inst u × IsReachOf f loc v × Meet f u v

-- byte locations with one root, fixed or turning
abbrev pub AreOneRoot : Reach → Reach → Type 0
AreOneRoot (Span r from len) (Span s at size) = r ≡ s
AreOneRoot (Span r from len) (Called args other hidden) = ⊥
AreOneRoot (Called args other hidden) v = ⊥

-- While a root stays what it is, byte locations with it meet where they share a byte. All others meet as ever.
abbrev pub MeetInTurn : FuncState → Reach → Reach → Type 0
MeetInTurn f u v = (AreOneRoot u v × ShareByte u v) ⊎ ((AreOneRoot u v → ⊥) × Meet f u v)

-- what instruction i writes meets the location, as long as the location's root is not made anew
abbrev pub MayWriteInTurn : FuncState → ℕ → Loc → Type 0
MayWriteInTurn f i loc = (b : ℕ) × (place : ℕ) × (x : Placed) × IsAt f.blocks i b place x × (u : Reach) × (v : Reach) × IsWritten f x.inst u × IsReachOf f loc v × MeetInTurn f u v

-- the instruction of number q makes the root of the location's bytes, which is turning
abbrev pub IsLocTurnedBy : FuncState → Loc → ℕ → Type 0
IsLocTurnedBy f loc q = (r : Root) × (from : ℤ) × (len : ℕ) × IsReachOf f loc (Span r from len) × IsTurnedBy f r q

-- what instruction i reads meets the location
abbrev pub MayRead : FuncState → ℕ → Loc → Type 0
MayRead f i loc = (b : ℕ) × (place : ℕ) × (x : Placed) × IsAt f.blocks i b place x × (u : Reach) × (v : Reach) × IsRead f x.inst u × IsReachOf f loc v × Meet f u v

-- instruction i is a store or memcpy through this root, which is fixed, and byte k of the root is one that it writes
abbrev pub MustWrite : FuncState → ℕ → Root → ℤ → Type 0
MustWrite f i r k = (b : ℕ) × (place : ℕ) × (x : Placed) × IsAt f.blocks i b place x × IsFixed f r × (from : ℤ) × (len : ℕ) × IsWritten f x.inst (Span r from len) × HoldsByte from len k

-- a base of the root is no alloca
abbrev pub IsOuterBase : Base → Type 0
IsOuterBase (Alloca l) = ⊥
IsOuterBase _ = Unit {0}

abbrev pub IsOuter : FuncState → Root → Type 0
IsOuter f r = (b : Base) × HasBase f r b × IsOuterBase b
