-- The bytes that a location has at a moment of a run, and clobbers that hold on every run.
use Rattle.std.specs.Prelude.{◌≡◌, ◌<◌, ◌≤◌, ◌+ℤ◌, ℕ, ℤ, pos, true, nat_lt, Option, Some, None, slice_get, Contains, if◌then◌else◌}
use Rattle.ms_paths.specs.Flow.{Event, HasEdge}
use Rattle.ms_ir.specs.Func.{Placed, FuncState, IsAt, insts_at}
use Rattle.ms_flow.specs.Table.{edges_of}
use Rattle.ms_alias.specs.declared.loc.Root.{Root}
use Rattle.ms_alias.specs.declared.loc.Root.TheVariants.{Local, Global}
use Rattle.ms_alias.specs.declared.loc.Loc.{Loc}
use Rattle.ms_alias.specs.declared.loc.Loc.TheVariants.{Bytes, ReadBy}
use Rattle.ms_alias.specs.Roots.{is_alloca}
use Rattle.ms_meaning.specs.Values.{Value, Pointer}
use Rattle.ms_meaning.specs.Memory.{HoldsByte, Written}
use Rattle.ms_meaning.specs.States.{Input, State, IsInput}
use Rattle.ms_meaning.specs.Traces.{IsOn, OccursLast, IsAboutTo, ReadsByte, written_of}

-- the value of a root at a moment, where it has one
abbrev pub root_value : State → Root → Option Value
root_value s (Local l) = s.locals l.0
root_value s (Global g) = if nat_lt g.0 s.outer then Some (Pointer g.0 (pos 0)) else None

-- byte k of object o is one of the location's; of what an instruction reads, where it is run next
abbrev pub IsByteOf : FuncState → State → Loc → ℕ → ℤ → Type 0
IsByteOf f s (Bytes root from len) o k = (at : ℤ) × (root_value s root ≡ Some (Pointer o at)) × HoldsByte (at +ℤ from) len k
IsByteOf f s (ReadBy j) o k = (b place : ℕ) × (x : Placed) × IsAt f.blocks j.0 b place x × ReadsByte s x.inst o k

-- Allocas stand in the first block, to which no edge leads.
pub record BeginsOnce (f : FuncState) : Type 0 where
  pub allocas : (b k : ℕ) (x : Placed) → slice_get (insts_at f.blocks b) k ≡ Some x → is_alloca x.inst ≡ true → b ≡ 0
  pub first : (a : ℕ) → HasEdge (edges_of f.blocks) a 0 → ⊥

-- On every run that comes to instruction i, no step since the event took place last has written a byte of the location.
pub record IsSound (f : FuncState) (i : ℕ) (loc : Loc) (e : Event) : Type 0 where
  pub each : (input : Input) → IsInput f input → (n : ℕ) (s : State) → IsOn f input n s → (b k : ℕ) (x : Placed) → IsAt f.blocks i b k x → IsAboutTo f s b k →
      (m : ℕ) × OccursLast f input e m n × ((j : ℕ) (t : State) → m ≤ j → j < n → IsOn f input j t → (w : Written) → Contains (written_of f t) w → IsByteOf f s loc w.object w.offset → ⊥)
