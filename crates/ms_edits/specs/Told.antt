-- What is asked of operands, instructions and places before an edit is let through.
use Rattle.std.specs.Prelude.{◌≡◌, ◌≢◌, ◌⊎◌, ◌<◌, ℕ, true, List, length, Some, slice_get, Contains}
use Rattle.ms_paths.specs.Flow.{Block as Run, IsPath}
use Rattle.ms_ir.specs.declared.names.Ty.{Ty}
use Rattle.ms_ir.specs.declared.names.LocalNo.{LocalNo}
use Rattle.ms_ir.specs.declared.inst.Val.{Val}
use Rattle.ms_ir.specs.declared.inst.Val.TheVariants.{Local}
use Rattle.ms_ir.specs.declared.inst.Inst.{Inst}
use Rattle.ms_ir.specs.declared.inst.Inst.TheVariants.{Alloca, Gep, Step, Load, Store, Copy, Call, Bin, Cmp, Select, Cast, Phi}
use Rattle.ms_ir.specs.declared.inst.Term.{Term}
use Rattle.ms_ir.specs.Func.{Placed, Block, FuncState, IsAt, insts_at}
use Rattle.ms_ir.specs.Graph.{graph_of}
use Rattle.ms_ir.specs.Locals.{HasType, IsGiver, IsNoLocal}
use Rattle.ms_ir.specs.Types.{is_phi}
use Rattle.ms_ir.specs.Uses.{Operand, operands_of, term_operands}
use Rattle.ms_ir.specs.Edits.{IsOperandIn}
use Rattle.ms_edits.specs.declared.operands.Operand.{Operand as Held}
use Rattle.ms_edits.specs.declared.operands.Ask.{Ask}
use Rattle.ms_edits.specs.declared.operands.Ask.TheVariants.{Missing, Other, Is}

abbrev pub as_operand : Held → Operand
as_operand o = record { ty = o.ty; val = o.val }

-- what stands at a place has this
abbrev pub AtPlace : {X : Type 0} → List X → (X → Type 0) → ℕ → Type 0
AtPlace {X} xs P k = (x : X) × (slice_get xs k ≡ Some x) × P x

-- a member has this
abbrev pub HasIn : {X : Type 0} → List X → (X → Type 0) → Type 0
HasIn {X} xs P = (x : X) × Contains xs x × P x

-- the local has a type, and not this one
abbrev pub HasNotType : FuncState → LocalNo → Ty → Type 0
HasNotType f l written = (ty : Ty) × HasType f l ty × (ty ≢ written)

-- what is asked of a local for which a type is written
abbrev pub IsAskedOf : FuncState → Ask → LocalNo → Ty → Type 0
IsAskedOf f Missing l written = IsNoLocal f l
IsAskedOf f Other l written = HasNotType f l written
IsAskedOf f (Is k) l written = l ≡ k

-- the operand is a local, and this is so of it
abbrev pub IsAsked : FuncState → Ask → Operand → Type 0
IsAsked f ask o = (l : LocalNo) × (o.val ≡ Local l) × IsAskedOf f ask l o.ty

-- a phi stands at the place
abbrev pub IsPhiAt : List Placed → ℕ → Type 0
IsPhiAt xs k = (x : Placed) × (slice_get xs k ≡ Some x) × (is_phi x.inst ≡ true)

-- a path to place k of block b has passed place j of block c
abbrev pub IsPassed : ℕ → ℕ → ℕ → ℕ → List ℕ → Type 0
IsPassed c j b k p = ((c ≡ b) × (j < k)) ⊎ Contains p c

-- some path comes to place k of block b without passing place j of block c
abbrev pub IsMissed : List Run → ℕ → ℕ → ℕ → ℕ → Type 0
IsMissed g c j b k = (p : List ℕ) × IsPath g b p × (IsPassed c j b k p → ⊥)

-- the value is a local, and some path comes to place k of block b before its definition
abbrev pub IsLate : FuncState → Val → ℕ → ℕ → Type 0
IsLate f v b k = (l : LocalNo) × (c : ℕ) × (j : ℕ) × (x : Placed) × (v ≡ Local l) × IsGiver f.blocks l c j x × IsMissed (graph_of f.blocks) c j b k

-- the operand is so
abbrev pub IsLateAt : FuncState → ℕ → ℕ → Operand → Type 0
IsLateAt f b k o = IsLate f o.val b k

-- a phi with one entry
abbrev pub HasOneEntry : Inst → Type 0
HasOneEntry (Phi ty entries tail) = length entries ≡ 1
HasOneEntry (Alloca size head tail) = ⊥
HasOneEntry (Gep base offset head index tail) = ⊥
HasOneEntry (Step base offset terms head index tail) = ⊥
HasOneEntry (Load ty ptr tail) = ⊥
HasOneEntry (Store ty val ptr tail) = ⊥
HasOneEntry (Copy to from len head tail) = ⊥
HasOneEntry (Call callee ret args effects head tail) = ⊥
HasOneEntry (Bin op flags ty a b tail) = ⊥
HasOneEntry (Cmp pred flags ty a b tail) = ⊥
HasOneEntry (Select cond ty a b tail) = ⊥
HasOneEntry (Cast op flags from a to tail) = ⊥

-- the first of these instructions is a phi with one entry
abbrev pub IsOnlyEntered : List Placed → Type 0
IsOnlyEntered xs = (x : Placed) × (slice_get xs 0 ≡ Some x) × HasOneEntry x.inst

-- an instruction has the local as an operand
abbrev pub InstHas : Inst → LocalNo → Type 0
InstHas inst l = (o : Operand) × Contains (operands_of inst) o × (o.val ≡ Local l)

abbrev pub TermHas : Term → LocalNo → Type 0
TermHas term l = (o : Operand) × Contains (term_operands term) o × (o.val ≡ Local l)

-- the instruction of a number has it
abbrev pub NumberHasOperand : List Block → ℕ → LocalNo → Type 0
NumberHasOperand blocks n l = (b : ℕ) × (k : ℕ) × (x : Placed) × IsAt blocks n b k x × InstHas x.inst l

-- some instruction has it
abbrev pub HasOperand : List Block → LocalNo → Type 0
HasOperand blocks l = (b : ℕ) × (k : ℕ) × (x : Placed) × (slice_get (insts_at blocks b) k ≡ Some x) × InstHas x.inst l

-- some terminator has it
abbrev pub HasTermOperand : List Block → LocalNo → Type 0
HasTermOperand blocks l = (b : ℕ) × (x : Block) × (slice_get blocks b ≡ Some x) × TermHas x.term l

-- the result of the instruction at a place is an operand
abbrev pub IsResultUsed : FuncState → ℕ → ℕ → Type 0
IsResultUsed f b place = (x : Placed) × (l : LocalNo) × (slice_get (insts_at f.blocks b) place ≡ Some x) × (x.result ≡ Some l) × IsOperandIn f.blocks l
