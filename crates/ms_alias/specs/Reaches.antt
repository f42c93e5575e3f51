-- What an instruction reads and what it writes: bytes at a root, or all that some bases lead to.
use Rattle.std.specs.Prelude.{◌≡◌, ◌⊎◌, ◌||◌, ℕ, ℤ, Bool, true, if◌then◌else◌, List, [], Some, Contains}
use Rattle.ms_ir.specs.declared.names.InstNo.{InstNo}
use Rattle.ms_ir.specs.declared.inst.Val.{Val}
use Rattle.ms_ir.specs.declared.inst.Arg.{Arg}
use Rattle.ms_ir.specs.declared.inst.Inst.{Inst}
use Rattle.ms_ir.specs.declared.inst.Inst.TheVariants.{Alloca as AllocaInst, Gep, Step as StepInst, Load, Store, Copy, Call, Bin, Cmp, Select, Cast, Phi}
use Rattle.ms_ir.specs.Func.{Placed, FuncState, IsAt}
use Rattle.ms_meaning.specs.Values.{size_of}
use Rattle.ms_alias.specs.declared.loc.Root.{Root}
use Rattle.ms_alias.specs.declared.loc.Loc.{Loc}
use Rattle.ms_alias.specs.declared.loc.Loc.TheVariants.{Bytes, ReadBy}
use Rattle.ms_alias.specs.Roots.{HasRoot, pointer_of}
use Rattle.ms_alias.specs.Bases.{Base, Alloca, Argument, Object, Outside, Hidden, HasBase, HasValBase, IsArgument}
use Rattle.ms_alias.specs.Captured.{IsCaptured}

-- so many bytes from an offset of a root on; or what a call reaches: all that these arguments lead to, and where the first flag
-- is set the memory that it may know besides, where the second is set memory that no pointer reaches
pub data Reach : Type 0 where
  Span : (root : Root) (from : ℤ) (len : ℕ) → Reach
  Called : (args : List Arg) (other hidden : Bool) → Reach

-- so many bytes from where the value points to
abbrev pub IsSpan : FuncState → Val → ℕ → Reach → Type 0
IsSpan f v len u = (p : Root) × (pointer_of v ≡ Some p) × (r : Root) × (from : ℤ) × HasRoot f p r from × (u ≡ Span r from len)

-- the instruction reads this
abbrev pub IsRead : FuncState → Inst → Reach → Type 0
IsRead f (Load ty ptr tail) u = IsSpan f ptr (size_of ty) u
IsRead f (Copy to from len head tail) u = IsSpan f from.val len u
IsRead f (Call callee ret args effects head tail) u = u ≡ Called (if effects.arg_read then args else []) effects.other_read effects.hidden_read
IsRead f (AllocaInst size head tail) u = ⊥
IsRead f (Gep base offset head index tail) u = ⊥
IsRead f (StepInst base offset terms head index tail) u = ⊥
IsRead f (Store ty val ptr tail) u = ⊥
IsRead f (Bin op flags ty a b tail) u = ⊥
IsRead f (Cmp pred flags ty a b tail) u = ⊥
IsRead f (Select cond ty a b tail) u = ⊥
IsRead f (Cast op flags from a to tail) u = ⊥
IsRead f (Phi ty entries tail) u = ⊥

-- the instruction writes this
abbrev pub IsWritten : FuncState → Inst → Reach → Type 0
IsWritten f (Store ty val ptr tail) u = IsSpan f ptr (size_of ty) u
IsWritten f (Copy to from len head tail) u = IsSpan f to.val len u
IsWritten f (Call callee ret args effects head tail) u = u ≡ Called (if effects.arg_write then args else []) effects.other_write effects.hidden_write
IsWritten f (AllocaInst size head tail) u = ⊥
IsWritten f (Gep base offset head index tail) u = ⊥
IsWritten f (StepInst base offset terms head index tail) u = ⊥
IsWritten f (Load ty ptr tail) u = ⊥
IsWritten f (Bin op flags ty a b tail) u = ⊥
IsWritten f (Cmp pred flags ty a b tail) u = ⊥
IsWritten f (Select cond ty a b tail) u = ⊥
IsWritten f (Cast op flags from a to tail) u = ⊥
IsWritten f (Phi ty entries tail) u = ⊥

-- a location is its bytes, or what the instruction reads
abbrev pub IsReachOf : FuncState → Loc → Reach → Type 0
IsReachOf f (Bytes root from len) u = u ≡ Span root from len
IsReachOf f (ReadBy j) u = (b : ℕ) × (place : ℕ) × (x : Placed) × IsAt f.blocks j.0 b place x × IsRead f x.inst u

-- what a call may know besides its arguments: captured allocas, what came in as an argument, every global, and memory outside
abbrev pub IsKnown : FuncState → Base → Type 0
IsKnown f (Alloca l) = IsCaptured f l
IsKnown f (Argument l) = IsArgument f l
IsKnown f (Object g) = Unit {0}
IsKnown f Outside = Unit {0}
IsKnown f Hidden = ⊥

-- the bases that are reached
abbrev pub IsReached : FuncState → Reach → Base → Type 0
IsReached f (Span root from len) b = HasBase f root b
IsReached f (Called args other hidden) b = ((a : Arg) × Contains args a × HasValBase f a.val b) ⊎ ((other ≡ true) × IsKnown f b) ⊎ ((hidden ≡ true) × (b ≡ Hidden))

-- the location that the instruction of number i reads
abbrev pub IsLocRead : FuncState → InstNo → Inst → Loc → Type 0
IsLocRead f i (Load ty ptr tail) loc = (p : Root) × (pointer_of ptr ≡ Some p) × (r : Root) × (from : ℤ) × HasRoot f p r from × (loc ≡ Bytes r from (size_of ty))
IsLocRead f i (Copy to from len head tail) loc = (p : Root) × (pointer_of from.val ≡ Some p) × (r : Root) × (at : ℤ) × HasRoot f p r at × (loc ≡ Bytes r at len)
IsLocRead f i (Call callee ret args effects head tail) loc = ((effects.arg_read || effects.other_read || effects.hidden_read) ≡ true) × (loc ≡ ReadBy i)
IsLocRead f i (AllocaInst size head tail) loc = ⊥
IsLocRead f i (Gep base offset head index tail) loc = ⊥
IsLocRead f i (StepInst base offset terms head index tail) loc = ⊥
IsLocRead f i (Store ty val ptr tail) loc = ⊥
IsLocRead f i (Bin op flags ty a b tail) loc = ⊥
IsLocRead f i (Cmp pred flags ty a b tail) loc = ⊥
IsLocRead f i (Select cond ty a b tail) loc = ⊥
IsLocRead f i (Cast op flags from a to tail) loc = ⊥
IsLocRead f i (Phi ty entries tail) loc = ⊥

-- the bytes that a store or memcpy writes
abbrev pub IsLocWritten : FuncState → Inst → Loc → Type 0
IsLocWritten f (Store ty val ptr tail) loc = (p : Root) × (pointer_of ptr ≡ Some p) × (r : Root) × (from : ℤ) × HasRoot f p r from × (loc ≡ Bytes r from (size_of ty))
IsLocWritten f (Copy to from len head tail) loc = (p : Root) × (pointer_of to.val ≡ Some p) × (r : Root) × (at : ℤ) × HasRoot f p r at × (loc ≡ Bytes r at len)
IsLocWritten f (AllocaInst size head tail) loc = ⊥
IsLocWritten f (Gep base offset head index tail) loc = ⊥
IsLocWritten f (StepInst base offset terms head index tail) loc = ⊥
IsLocWritten f (Load ty ptr tail) loc = ⊥
IsLocWritten f (Call callee ret args effects head tail) loc = ⊥
IsLocWritten f (Bin op flags ty a b tail) loc = ⊥
IsLocWritten f (Cmp pred flags ty a b tail) loc = ⊥
IsLocWritten f (Select cond ty a b tail) loc = ⊥
IsLocWritten f (Cast op flags from a to tail) loc = ⊥
IsLocWritten f (Phi ty entries tail) loc = ⊥

-- the instruction of number i reads, or writes, this location
abbrev pub ReadsLoc : FuncState → InstNo → Loc → Type 0
ReadsLoc f i loc = (b : ℕ) × (place : ℕ) × (x : Placed) × IsAt f.blocks i.0 b place x × IsLocRead f i x.inst loc

abbrev pub WritesLoc : FuncState → InstNo → Loc → Type 0
WritesLoc f i loc = (b : ℕ) × (place : ℕ) × (x : Placed) × IsAt f.blocks i.0 b place x × IsLocWritten f x.inst loc
