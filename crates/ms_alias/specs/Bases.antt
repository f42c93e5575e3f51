-- The memory that a pointer may point into: the allocas, arguments and globals that getelementptrs, selects and phis bring to it.
use Rattle.std.specs.Prelude.{◌≡◌, ◌⊎◌, ℕ, zero, suc, List, [], ◌∷◌, map, Option, Some, None, Contains, true, slice_get}
use Rattle.ms_ir.specs.declared.names.LocalNo.{LocalNo}
use Rattle.ms_ir.specs.declared.names.GlobalNo.{GlobalNo}
use Rattle.ms_ir.specs.declared.names.Param.{Param}
use Rattle.ms_ir.specs.declared.inst.Val.{Val}
use Rattle.ms_ir.specs.declared.inst.Entry.{Entry}
use Rattle.ms_ir.specs.declared.inst.Inst.{Inst}
use Rattle.ms_ir.specs.declared.inst.Inst.TheVariants.{Alloca as AllocaInst, Gep, Step as StepInst, Load, Store, Copy, Call, Bin, Cmp, Select, Cast, Phi}
use Rattle.ms_ir.specs.Func.{FuncState}
use Rattle.ms_alias.specs.declared.loc.Root.{Root}
use Rattle.ms_alias.specs.declared.loc.Root.TheVariants.{Local, Global}
use Rattle.ms_alias.specs.Roots.{Maker, maker_of, is_alloca, is_pointer, pointer_of}

-- An object, or a kind of memory that has no name in the function: Outside is what other modules have, too; Hidden is memory
-- that no pointer of the module reaches.
pub data Base : Type 0 where
  Alloca : (l : LocalNo) → Base
  Argument : (l : LocalNo) → Base
  Object : (g : GlobalNo) → Base
  Outside : Base
  Hidden : Base

-- the pointers among some values
abbrev pub with_pointer : Option Root → List Root → List Root
with_pointer None ps = ps
with_pointer (Some p) ps = p ∷ ps

abbrev pub pointers_in : List Val → List Root
pointers_in [] = []
pointers_in (v ∷ vs) = with_pointer (pointer_of v) (pointers_in vs)

-- the values one of which the pointer is, or is made of
abbrev pub sources_in : Inst → List Val
sources_in (Gep base offset head index tail) = base ∷ []
sources_in (StepInst base offset terms head index tail) = base ∷ []
sources_in (Select cond ty a b tail) = a ∷ b ∷ []
sources_in (Phi ty entries tail) = map (λ (e : Entry). e.val) entries
sources_in (AllocaInst size head tail) = []
sources_in (Load ty ptr tail) = []
sources_in (Store ty val ptr tail) = []
sources_in (Copy to from len head tail) = []
sources_in (Call callee ret args effects head tail) = []
sources_in (Bin op flags ty a b tail) = []
sources_in (Cmp pred flags ty a b tail) = []
sources_in (Cast op flags from a to tail) = []

abbrev pub leads_in : Option Maker → List Root
leads_in None = []
leads_in (Some m) = pointers_in (sources_in m.inst)

-- the pointers that a getelementptr, select or phi makes into p
abbrev pub leads_of : FuncState → Root → List Root
leads_of f (Local l) = leads_in (maker_of f l)
leads_of f (Global g) = []

-- n instructions bring q to p
abbrev pub IsBrought : FuncState → ℕ → Root → Root → Type 0
IsBrought f zero p q = p ≡ q
IsBrought f (suc n) p q = (r : Root) × Contains (leads_of f p) r × IsBrought f n r q

abbrev pub IsAllocaLocal : FuncState → LocalNo → Type 0
IsAllocaLocal f l = (m : Maker) × (maker_of f l ≡ Some m) × (is_alloca m.inst ≡ true)

abbrev pub IsArgument : FuncState → LocalNo → Type 0
IsArgument f l = (p : Param) × (slice_get f.params l.0 ≡ Some p) × (is_pointer p.ty ≡ true)

-- the pointer is this alloca, argument or global
abbrev pub IsNamed : FuncState → Root → Base → Type 0
IsNamed f (Local l) b = (IsAllocaLocal f l × (b ≡ Alloca l)) ⊎ (IsArgument f l × (b ≡ Argument l))
IsNamed f (Global g) b = b ≡ Object g

-- b is a base of p. The bases of all pointers are the least sets such that an alloca, argument or global has itself, and a
-- pointer has those of each pointer that its instruction makes into it: each base comes along some chain of instructions.
abbrev pub HasBase : FuncState → Root → Base → Type 0
HasBase f p b = (n : ℕ) × (q : Root) × IsBrought f n p q × IsNamed f q b

-- the same for a value; a number has no base
abbrev pub HasValBase : FuncState → Val → Base → Type 0
HasValBase f v b = (p : Root) × (pointer_of v ≡ Some p) × HasBase f p b
