-- What a run did up to a moment: which instructions it ran and which blocks it entered, and what a step reads and writes.
use Rattle.std.specs.Prelude.{◌≡◌, ◌<◌, ◌≤◌, ℕ, zero, suc, ℤ, pos, Bool, true, false, List, [], Option, Some, None, slice_get, max, length}
use Rattle.ms_paths.specs.Flow.{Event, Of, Phi as LastPhi, Entry}
use Rattle.ms_ir.specs.declared.names.Ty.TheVariants.{Ptr}
use Rattle.ms_ir.specs.declared.inst.Val.{Val}
use Rattle.ms_ir.specs.declared.inst.Inst.{Inst}
use Rattle.ms_ir.specs.declared.inst.Inst.TheVariants.{Alloca, Gep, Step, Load, Store, Copy, Call, Bin, Cmp, Select, Cast, Phi}
use Rattle.ms_ir.specs.Func.{Placed, FuncState, insts_at}
use Rattle.ms_meaning.specs.Values.{Value, Pointer, size_of}
use Rattle.ms_meaning.specs.Memory.{Written, HoldsByte, object_at}
use Rattle.ms_meaning.specs.States.{Input, State, operand_of}
use Rattle.ms_meaning.specs.Calls.{values_of, may_read_object}
use Rattle.ms_meaning.specs.Steps.{On, Doing, Does, Waits, Fails, doing, is_phi, phis_among}
use Rattle.ms_meaning.specs.Runs.{moment}

-- the run goes on after n steps, and this is its state
abbrev pub IsOn : FuncState → Input → ℕ → State → Type 0
IsOn f input n s = moment f input n ≡ On s

-- the instruction that the next step runs; none where it leaves the block
abbrev pub inst_of : FuncState → State → Option Placed
inst_of f s = slice_get (insts_at f.blocks s.block) s.place

-- the step after n others runs this instruction, or enters this block
abbrev pub Executes : FuncState → Input → ℕ → Placed → Type 0
Executes f input n x = (s : State) × IsOn f input n s × (inst_of f s ≡ Some x)

abbrev pub Enters : FuncState → Input → ℕ → ℕ → Type 0
Enters f input n b = (s t : State) × IsOn f input n s × (inst_of f s ≡ None) × IsOn f input (suc n) t × (t.block ≡ b)

-- An event takes place at a moment: the entry at the run's beginning, an instruction at the end of a step that runs it, and the phis of a block
-- where the block has just been entered.
abbrev pub Occurs : FuncState → Input → Event → ℕ → Type 0
Occurs f input Entry n = n ≡ 0
Occurs f input (Of i) zero = ⊥
Occurs f input (Of i) (suc n) = (x : Placed) × Executes f input n x × (x.number ≡ i)
Occurs f input (LastPhi b) zero = b ≡ 0
Occurs f input (LastPhi b) (suc n) = Enters f input n b

-- m is the last moment up to n at which it takes place
pub record OccursLast (f : FuncState) (input : Input) (e : Event) (m n : ℕ) : Type 0 where
  pub occurs : Occurs f input e m
  pub before : m ≤ n
  pub no_later : (k : ℕ) → m < k → k ≤ n → Occurs f input e k → ⊥

-- The instruction at a place of a block is about to be run; that of a phi is the moment at which its block was entered.
pub record IsAboutTo (f : FuncState) (s : State) (b k : ℕ) : Type 0 where
  pub block : s.block ≡ b
  pub place : s.place ≡ max k (phis_among (insts_at f.blocks b))

-- no phi counts
abbrev pub CountsNoPhi : FuncState → (ℕ → Bool) → Type 0
CountsNoPhi f E = (b k : ℕ) (x : Placed) → slice_get (insts_at f.blocks b) k ≡ Some x → is_phi x.inst ≡ true → E x.number ≡ false

-- no instruction that counts was run from moment m to moment n
abbrev pub RunsNone : FuncState → Input → (ℕ → Bool) → ℕ → ℕ → Type 0
RunsNone f input E m n = (j : ℕ) (x : Placed) → m ≤ j → j < n → Executes f input j x → E x.number ≡ false

-- the bytes that the next step writes
abbrev pub written_by : Doing → List Written
written_by (Does d) = d.writes
written_by (Waits made) = []
written_by Fails = []

abbrev pub written_at : State → Option Placed → List Written
written_at s None = []
written_at s (Some x) = written_by (doing s x.inst)

abbrev pub written_of : FuncState → State → List Written
written_of f s = written_at s (inst_of f s)

-- byte k of object o is one of so many from where the operand points to
abbrev pub HoldsByteAt : State → Val → ℕ → ℕ → ℤ → Type 0
HoldsByteAt s ptr len o k = (at : ℤ) × (operand_of s.locals Ptr ptr ≡ Some (Pointer o at)) × HoldsByte at len k

-- the instruction reads byte k of object o, where it is run next
abbrev pub ReadsByte : State → Inst → ℕ → ℤ → Type 0
ReadsByte s (Load ty ptr tail) o k = HoldsByteAt s ptr (size_of ty) o k
ReadsByte s (Copy to from len head tail) o k = HoldsByteAt s from.val len o k
ReadsByte s (Call callee ret args effects head tail) o k =
    (values : List Value) × (values_of s.locals args ≡ Some values) × (may_read_object s effects args values o ≡ true) × HoldsByte (pos 0) (length (object_at s.objects o)) k
ReadsByte s (Alloca size head tail) o k = ⊥
ReadsByte s (Gep base offset head index tail) o k = ⊥
ReadsByte s (Step base offset terms head index tail) o k = ⊥
ReadsByte s (Store ty val ptr tail) o k = ⊥
ReadsByte s (Bin op flags ty a b tail) o k = ⊥
ReadsByte s (Cmp pred flags ty a b tail) o k = ⊥
ReadsByte s (Select cond ty a b tail) o k = ⊥
ReadsByte s (Cast op flags from a to tail) o k = ⊥
ReadsByte s (Phi ty entries tail) o k = ⊥
