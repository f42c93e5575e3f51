-- What the tables are made from.
use Rattle.std.specs.Prelude.{◌≡◌, ◌≢◌, ◌≤◌, ◌↔◌, ◌++◌, ℕ, Bool, true, false, if◌then◌else◌, List, [], ◌∷◌, length, Option, Some, None, slice_index_or, slice_set, nat_lt, replicate, ◌<◌, ◌⊎◌, slice_get, Contains, position}
use Rattle.ms_ir.specs.declared.names.LocalNo.{LocalNo}
use Rattle.ms_ir.specs.declared.names.InstNo.{InstNo}
use Rattle.ms_ir.specs.declared.names.GlobalNo.{GlobalNo}
use Rattle.ms_ir.specs.declared.inst.Arg.{Arg}
use Rattle.ms_ir.specs.Func.{Placed, FuncState, IsAt}
use Rattle.ms_alias.specs.Captured.{args_of, skips}
use Rattle.ms_alias.specs.declared.loc.Root.{Root}
use Rattle.ms_alias.specs.declared.loc.Root.TheVariants.{Local, Global}
use Rattle.ms_alias.specs.declared.sets.Set.{Set}
use Rattle.ms_alias.specs.declared.sets.Set.TheVariants.{Nothing, Argument, Alloca, Object, Brought}
use Rattle.ms_alias.specs.Roots.{Maker, Step, is_alloca, maker_of, IsRing}
use Rattle.ms_alias.specs.Bases.{leads_of, IsArgument}
use Rattle.ms_alias.specs.Tables.{RowState, no_row, same_root, BasesState, set_of, global_column, row_of, bit_of, val_set, caught_at}

-- no local from this number on is a pointer that an instruction makes
abbrev pub IsBeyond : FuncState → ℕ → Type 0
IsBeyond f n = (l : LocalNo) → n ≤ l.0 → maker_of f l ≡ None

-- the local below a limit that a getelementptr is made of
abbrev pub local_below : ℕ → Root → Option ℕ
local_below limit (Local m) = if nat_lt m.0 limit then Some m.0 else None
local_below limit (Global g) = None

abbrev pub next_local : ℕ → Option Step → Option ℕ
next_local limit None = None
next_local limit (Some s) = local_below limit s.base

-- for each local whether its getelementptrs lead back to it
pub record AreRings (f : FuncState) (rings : List Bool) : Type 0 where
  pub each : (l : LocalNo) → (slice_index_or rings l.0 false ≡ true) ↔ IsRing f (Local l)

-- A search for the bases of a local: which locals were met, those of them that were not visited yet, and the row so far.
pub record FloodState : Type 0 where
  pub marked : List Bool
  pub todo : List ℕ
  pub row : RowState

-- nothing was met yet of so many locals, and no base of so many columns
abbrev pub flood_begun : ℕ → ℕ → FloodState
flood_begun count columns = record { marked = replicate count false; todo = []; row = record { bits = replicate columns false; argument = false; outer = false } }

-- a local is met, and is to be visited if it is new
abbrev pub met : ℕ → FloodState → FloodState
met m s = if slice_index_or s.marked m true then s else record s { marked = slice_set s.marked m true; todo = s.todo ++ m ∷ [] }

abbrev pub met_column : ℕ → FloodState → FloodState
met_column c s = record s { row = record (s.row) { bits = slice_set s.row.bits c true } }

abbrev pub met_outer : FloodState → FloodState
met_outer s = record s { row = record (s.row) { outer = true } }

abbrev pub met_argument : FloodState → FloodState
met_argument s = record s { row = record (s.row) { argument = true; outer = true } }

abbrev pub met_global : Option ℕ → FloodState → FloodState
met_global None s = met_outer s
met_global (Some c) s = met_outer (met_column c s)

-- a pointer is met
abbrev pub took : BasesState → Root → FloodState → FloodState
took t (Local m) s = met m.0 s
took t (Global g) s = met_global (global_column t g) s

abbrev pub took_option : BasesState → Option Root → FloodState → FloodState
took_option t None s = s
took_option t (Some p) s = took t p s

abbrev pub took_all : BasesState → List Root → FloodState → FloodState
took_all t [] s = s
took_all t (p ∷ ps) s = took_all t ps (took t p s)

-- what a local is itself
abbrev pub owned : Set → FloodState → FloodState
owned Argument s = met_argument s
owned (Alloca c) s = met_column c s
owned _ s = s

-- a local is visited
abbrev pub visited : BasesState → FuncState → ℕ → FloodState → FloodState
visited t f m s = took_all t (leads_of f (Local (record { 0 = m }))) (owned (set_of t (Local (record { 0 = m }))) s)

-- the column is an alloca of the set
abbrev pub IsAllocaOf : BasesState → Set → ℕ → Type 0
IsAllocaOf t (Alloca d) c = c ≡ d
IsAllocaOf t (Brought l) c = (bit_of (row_of t l) c ≡ true) × ((a : LocalNo) × (slice_get t.columns c ≡ Some (Local a)))
IsAllocaOf t _ c = ⊥

-- marks are added at these places
pub record Adds (P : ℕ → Type 0) (old new : List Bool) : Type 0 where
  pub len : length new ≡ length old
  pub each : (c : ℕ) → (slice_index_or new c false ≡ true) ↔ ((slice_index_or old c false ≡ true) ⊎ P c)

-- each alloca's column is there
abbrev pub HaveColumns : BasesState → Type 0
HaveColumns t = (p : Root) (c : ℕ) → set_of t p ≡ Alloca c → c < length t.columns

-- the callee may keep the argument, and it leads to the alloca of the column
abbrev pub IsKeptBy : BasesState → Arg → ℕ → Type 0
IsKeptBy t a c = (a.keeps ≡ true) × IsAllocaOf t (val_set t a.val) c

abbrev pub IsKeptAt : BasesState → List Arg → ℕ → Type 0
IsKeptAt t args c = (a : Arg) × Contains args a × IsKeptBy t a c

-- an instruction of this number, which is not the one that is left out, keeps the alloca of the column
abbrev pub IsCountedAs : BasesState → FuncState → Option InstNo → ℕ → ℕ → Type 0
IsCountedAs t f skip i c = (b : ℕ) × (place : ℕ) × (x : Placed) × IsAt f.blocks i b place x × (skips skip i ≡ false) × IsKeptAt t (args_of x.inst) c

-- some instruction does
abbrev pub IsCountedAt : BasesState → FuncState → Option InstNo → ℕ → Type 0
IsCountedAt t f skip c = (i : ℕ) × IsCountedAs t f skip i c

-- the marked columns are those of the captured allocas, where one instruction is left out
pub record AreCounted (t : BasesState) (f : FuncState) (skip : Option InstNo) (captured : List Bool) : Type 0 where
  pub len : length captured ≡ length t.columns
  pub each : (c : ℕ) → (slice_index_or captured c false ≡ true) ↔ IsCountedAt t f skip c

-- the kind of a local, where an alloca that is its own column stands at this one
abbrev pub IsKindAt : ℕ → FuncState → LocalNo → Set → Type 0
IsKindAt column f l Nothing = (maker_of f l ≡ None) × (IsArgument f l → ⊥)
IsKindAt column f l Argument = (maker_of f l ≡ None) × IsArgument f l
IsKindAt column f l (Alloca c) = (c ≡ column) × ((m : Maker) × (maker_of f l ≡ Some m) × (is_alloca m.inst ≡ true)) × (IsArgument f l → ⊥)
IsKindAt column f l (Object g) = ⊥
IsKindAt column f l (Brought k) = (k ≡ l.0) × ((m : Maker) × (maker_of f l ≡ Some m) × (is_alloca m.inst ≡ false)) × (IsArgument f l → ⊥)

-- the same among columns
abbrev pub IsKindIn : List Root → FuncState → LocalNo → Set → Type 0
IsKindIn columns f l Nothing = (maker_of f l ≡ None) × (IsArgument f l → ⊥)
IsKindIn columns f l Argument = (maker_of f l ≡ None) × IsArgument f l
IsKindIn columns f l (Alloca c) = (slice_get columns c ≡ Some (Local l)) × ((m : Maker) × (maker_of f l ≡ Some m) × (is_alloca m.inst ≡ true)) × (IsArgument f l → ⊥)
IsKindIn columns f l (Object g) = ⊥
IsKindIn columns f l (Brought k) = (k ≡ l.0) × ((m : Maker) × (maker_of f l ≡ Some m) × (is_alloca m.inst ≡ false)) × (IsArgument f l → ⊥)

-- the sets of the first locals
pub record AreKinds (f : FuncState) (count : ℕ) (columns : List Root) (sets : List Set) : Type 0 where
  pub len : length sets ≡ count
  pub each : (k : ℕ) → k < count → IsKindIn columns f (record { 0 = k }) (slice_index_or sets k Nothing)

-- each global among some pointers has a column
abbrev pub HaveGlobals : List Root → List Root → Type 0
HaveGlobals columns ps = (g : GlobalNo) → Contains ps (Global g) → (c : ℕ) × (position (same_root (Global g)) columns ≡ Some c)

-- some columns, and more behind them
abbrev pub IsLonger : List Root → List Root → Type 0
IsLonger old new = (more : List Root) × (new ≡ old ++ more)

-- the globals of the first locals
abbrev pub HaveFirst : FuncState → ℕ → List Root → Type 0
HaveFirst f count columns = (k : ℕ) → k < count → HaveGlobals columns (leads_of f (Local (record { 0 = k })))

-- the row of a local with so many columns
abbrev pub row_len : ℕ → Set → ℕ
row_len columns (Brought k) = columns
row_len columns _ = 0

abbrev pub HaveRows : List Set → ℕ → List RowState → Type 0
HaveRows sets columns rows = (length rows ≡ length sets) × ((k : ℕ) → k < length sets → length (slice_index_or rows k no_row).bits ≡ row_len columns (slice_index_or sets k Nothing))

-- by the marks of two lists one and the same alloca is captured and is not
abbrev pub MarkOthers : BasesState → List Bool → List Bool → Type 0
MarkOthers t old new = (l : LocalNo) × (caught_at old (set_of t (Local l)) ≢ caught_at new (set_of t (Local l)))
