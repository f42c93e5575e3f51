-- Where pointers come from: the instruction that makes a pointer, its root and offset, and which roots are fixed.
use Rattle.std.specs.Prelude.{◌≡◌, ◌==◌, ◌⊎◌, ◌&&◌, ◌+ℤ◌, ℕ, zero, suc, ℤ, pos, Bool, true, false, if◌then◌else◌, List, [], ◌∷◌, Option, Some, None}
use Rattle.ms_ir.specs.declared.names.LocalNo.{LocalNo}
use Rattle.ms_ir.specs.declared.inst.Val.{Val}
use Rattle.ms_ir.specs.declared.inst.Val.TheVariants.{Num, Local as LocalVal, Global as GlobalVal}
use Rattle.ms_ir.specs.declared.inst.Inst.{Inst}
use Rattle.ms_ir.specs.declared.inst.Inst.TheVariants.{Alloca, Gep, Step as StepInst, Load, Store, Copy, Call, Bin, Cmp, Select, Cast, Phi}
use Rattle.ms_ir.specs.Func.{Placed, Block, FuncState, IsAt}
pub use Rattle.ms_ir.specs.Types.{is_pointer, is_alloca}
use Rattle.ms_flow.specs.Table.{edges_of}
use Rattle.ms_flow.specs.Flow.{IsOnCycle}
use Rattle.ms_alias.specs.declared.loc.Root.{Root}
use Rattle.ms_alias.specs.declared.loc.Root.TheVariants.{Local, Global}

-- an alloca, a getelementptr with or without terms, or a select or phi of pointers
abbrev pub makes_pointer : Inst → Bool
makes_pointer (Alloca size head tail) = true
makes_pointer (Gep base offset head index tail) = true
makes_pointer (StepInst base offset terms head index tail) = true
makes_pointer (Select cond ty a b tail) = is_pointer ty
makes_pointer (Phi ty entries tail) = is_pointer ty
makes_pointer (Load ty ptr tail) = false
makes_pointer (Store ty val ptr tail) = false
makes_pointer (Copy to from len head tail) = false
makes_pointer (Call callee ret args effects head tail) = false
makes_pointer (Bin op flags ty a b tail) = false
makes_pointer (Cmp pred flags ty a b tail) = false
makes_pointer (Cast op flags from a to tail) = false

abbrev pub is_local : LocalNo → Option LocalNo → Bool
is_local l None = false
is_local l (Some k) = k.0 == l.0

-- the instruction makes this local, which is a pointer
abbrev pub makes : LocalNo → Placed → Bool
makes l x = makes_pointer x.inst && is_local l x.result

-- an instruction and the number of its block
pub record Maker : Type 0 where
  pub block : ℕ
  pub inst : Inst

-- the instruction among those of block b that makes a pointer
abbrev pub maker_in : ℕ → List Placed → LocalNo → Option Maker
maker_in b [] l = None
maker_in b (x ∷ xs) l = if makes l x then Some (record { block = b; inst = x.inst }) else maker_in b xs l

abbrev pub or_else : Option Maker → Option Maker → Option Maker
or_else None other = other
or_else (Some m) other = Some m

-- the same among those of several blocks, the first of which is b
abbrev pub maker_from : ℕ → List Block → LocalNo → Option Maker
maker_from b [] l = None
maker_from b (x ∷ xs) l = or_else (maker_in b x.insts l) (maker_from (suc b) xs l)

-- the instruction that makes a pointer; none makes an argument, or a local that is no pointer
abbrev pub maker_of : FuncState → LocalNo → Option Maker
maker_of f l = maker_from 0 f.blocks l

-- the pointer that a value is; a number is none
abbrev pub pointer_of : Val → Option Root
pointer_of (Num ty n) = None
pointer_of (LocalVal l) = Some (Local l)
pointer_of (GlobalVal g) = Some (Global g)

-- a pointer, and so many bytes to be added: what a getelementptr whose indices are numbers does; one with terms makes a root
pub record Step : Type 0 where
  pub base : Root
  pub bytes : ℤ

abbrev pub step_by : ℤ → Option Root → Option Step
step_by bytes None = None
step_by bytes (Some p) = Some (record { base = p; bytes = bytes })

abbrev pub step_in : Inst → Option Step
step_in (Gep base offset head index tail) = step_by offset (pointer_of base)
step_in (Alloca size head tail) = None
step_in (StepInst base offset terms head index tail) = None
step_in (Load ty ptr tail) = None
step_in (Store ty val ptr tail) = None
step_in (Copy to from len head tail) = None
step_in (Call callee ret args effects head tail) = None
step_in (Bin op flags ty a b tail) = None
step_in (Cmp pred flags ty a b tail) = None
step_in (Select cond ty a b tail) = None
step_in (Cast op flags from a to tail) = None
step_in (Phi ty entries tail) = None

abbrev pub step_by_maker : Option Maker → Option Step
step_by_maker None = None
step_by_maker (Some m) = step_in m.inst

-- what a getelementptr adds to which pointer, where one makes p
abbrev pub step_of : FuncState → Root → Option Step
step_of f (Local l) = step_by_maker (maker_of f l)
step_of f (Global g) = None

-- n getelementptrs lead back from p to q
abbrev pub LeadsBack : FuncState → ℕ → Root → Root → Type 0
LeadsBack f zero p q = p ≡ q
LeadsBack f (suc n) p q = (s : Step) × (step_of f p ≡ Some s) × LeadsBack f n s.base q

-- the getelementptrs of p lead back to p itself
abbrev pub IsRing : FuncState → Root → Type 0
IsRing f p = (n : ℕ) × LeadsBack f (suc n) p p

-- a pointer that is its own root: no getelementptr makes it, or its getelementptrs lead back to itself
abbrev pub IsEnd : FuncState → Root → Type 0
IsEnd f p = (step_of f p ≡ None) ⊎ IsRing f p

-- n getelementptrs lead back from p to the first pointer that is its own root, and their bytes make up this sum
abbrev pub IsRootAfter : FuncState → ℕ → Root → Root → ℤ → Type 0
IsRootAfter f zero p r sum = (p ≡ r) × (sum ≡ pos 0) × IsEnd f p
IsRootAfter f (suc n) p r sum = (IsEnd f p → ⊥) × (s : Step) × (step_of f p ≡ Some s) × (rest : ℤ) × IsRootAfter f n s.base r rest × (sum ≡ (s.bytes +ℤ rest))

-- the root of a pointer, and its offset from there
abbrev pub HasRoot : FuncState → Root → Root → ℤ → Type 0
HasRoot f p r offset = (n : ℕ) × IsRootAfter f n p r offset

-- an instruction that is no alloca makes the root, in a block on a cycle among reached blocks
abbrev pub IsTurning : FuncState → Root → Type 0
IsTurning f (Local l) = (m : Maker) × (maker_of f l ≡ Some m) × (is_alloca m.inst ≡ false) × IsOnCycle (edges_of f.blocks) m.block
IsTurning f (Global g) = ⊥

-- the instruction of this number makes the root, which is turning
abbrev pub IsTurnedBy : FuncState → Root → ℕ → Type 0
IsTurnedBy f (Local l) q = IsTurning f (Local l) × (b : ℕ) × (place : ℕ) × (x : Placed) × IsAt f.blocks q b place x × (makes l x ≡ true)
IsTurnedBy f (Global g) q = ⊥

-- every other root is fixed: arguments, globals, allocas, and what is made on no cycle
abbrev pub IsFixed : FuncState → Root → Type 0
IsFixed f r = IsTurning f r → ⊥

-- a pair as a step
abbrev pub pair_step : Root × ℤ → Step
pair_step p = record { base = p.0; bytes = p.1 }

-- the block of an instruction that is no alloca
abbrev pub moving_block : Option Maker → Option ℕ
moving_block None = None
moving_block (Some m) = if is_alloca m.inst then None else Some m.block
