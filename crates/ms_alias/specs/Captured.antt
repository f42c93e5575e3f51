-- Which allocas a call may have kept a pointer to.
use Rattle.std.specs.Prelude.{◌≡◌, ◌==◌, ◌⊎◌, ℕ, Bool, List, [], Option, Some, None, Contains, true, false, slice_get}
use Rattle.ms_ir.specs.declared.names.LocalNo.{LocalNo}
use Rattle.ms_ir.specs.declared.names.InstNo.{InstNo}
use Rattle.ms_ir.specs.declared.inst.Arg.{Arg}
use Rattle.ms_ir.specs.declared.inst.Inst.{Inst}
use Rattle.ms_ir.specs.declared.inst.Inst.TheVariants.{Call}
use Rattle.ms_ir.specs.Func.{Placed, FuncState, insts_at}
use Rattle.ms_alias.specs.Bases.{Base, Alloca, HasValBase}

-- the arguments of a call
abbrev pub args_of : Inst → List Arg
args_of (Call callee ret args effects head tail) = args
args_of _ = []

-- a call passes a pointer with this base as an argument that the callee may keep
abbrev pub IsKept : FuncState → Inst → Base → Type 0
IsKept f inst b = (a : Arg) × Contains (args_of inst) a × (a.keeps ≡ true) × HasValBase f a.val b

-- some call of the function, wherever it stands, passes a pointer to the alloca so
abbrev pub IsCaptured : FuncState → LocalNo → Type 0
IsCaptured f l = (b : ℕ) × (place : ℕ) × (x : Placed) × (slice_get (insts_at f.blocks b) place ≡ Some x) × IsKept f x.inst (Alloca l)

-- the number is the one that is left out
abbrev pub skips : Option InstNo → ℕ → Bool
skips None i = false
skips (Some s) i = s.0 == i

-- the same where one instruction is left out, as if it were not there
abbrev pub IsCapturedBut : FuncState → Option InstNo → LocalNo → Type 0
IsCapturedBut f skip l = (b : ℕ) × (place : ℕ) × (x : Placed) × (slice_get (insts_at f.blocks b) place ≡ Some x) × (skips skip x.number ≡ false) × IsKept f x.inst (Alloca l)

-- a local has one and has not the other
abbrev pub Differ : (LocalNo → Type 0) → (LocalNo → Type 0) → Type 0
Differ P Q = (l : LocalNo) × ((P l × (Q l → ⊥)) ⊎ (Q l × (P l → ⊥)))
