-- The tables of a function's pointers, and what is to be read from them.
use Rattle.std.specs.Prelude.{◌≡◌, ◌==◌, ◌&&◌, ◌||◌, ◌↔◌, ◌+ℤ◌, ℕ, ℤ, pos, int_lt, int_le, nat_lt, not, Bool, true, false, if◌then◌else◌, List, [], ◌∷◌, length, position, Option, Some, None, slice_get, slice_index_or, Contains}
use Rattle.ms_ir.specs.declared.names.LocalNo.{LocalNo}
use Rattle.ms_ir.specs.declared.names.GlobalNo.{GlobalNo}
use Rattle.ms_ir.specs.declared.names.InstNo.{InstNo}
use Rattle.std.specs.List.{list_any}
use Rattle.ms_ir.specs.declared.inst.Val.{Val}
use Rattle.ms_ir.specs.declared.inst.Arg.{Arg}
use Rattle.ms_ir.specs.declared.inst.Inst.{Inst}
use Rattle.ms_ir.specs.declared.inst.Inst.TheVariants.{Load, Store, Copy, Call}
use Rattle.ms_meaning.specs.Values.{size_of}
use Rattle.ms_alias.specs.declared.loc.Loc.{Loc}
use Rattle.ms_alias.specs.declared.loc.Loc.TheVariants.{Bytes, ReadBy}
use Rattle.ms_ir.specs.Func.{Placed, FuncState, IsAt}
use Rattle.ms_alias.specs.declared.touch.Touch.{Touch}
use Rattle.ms_alias.specs.declared.touch.Touch.TheVariants.{Span as TouchSpan, Call as TouchCall}
use Rattle.ms_alias.specs.declared.loc.Root.{Root}
use Rattle.ms_alias.specs.declared.loc.Root.TheVariants.{Local, Global}
use Rattle.ms_alias.specs.declared.sets.Set.{Set}
use Rattle.ms_alias.specs.declared.sets.Set.TheVariants.{Nothing, Argument, Alloca, Object, Brought}
use Rattle.ms_alias.specs.declared.origins.Origin.{Origin}
use Rattle.ms_alias.specs.Roots.{Maker, maker_of, is_alloca, pointer_of, HasRoot, IsTurning}
use Rattle.ms_alias.specs.Bases.{Base, Alloca as AllocaBase, Argument as ArgumentBase, Object as ObjectBase, HasBase, IsArgument, leads_of}
use Rattle.ms_alias.specs.Captured.{IsCaptured, IsCapturedBut}
use Rattle.ms_alias.specs.Reaches.{Reach, Span, Called}
use Rattle.ms_alias.specs.Meeting.{IsOuter}

-- the bases of a pointer: a mark for each column, whether one is an argument, and whether one is no alloca
pub record RowState : Type 0 where
  pub bits : List Bool
  pub argument : Bool
  pub outer : Bool

-- by local what is known of its bases, the allocas and globals that have a column, and by local its row
pub record BasesState : Type 0 where
  pub sets : List Set
  pub columns : List Root
  pub rows : List RowState

-- by local its origin and whether it is a turning root; its bases; and by column whether it is a captured alloca
pub record AliasState : Type 0 where
  pub origins : List Origin
  pub turning : List Bool
  pub bases : BasesState
  pub captured : List Bool

abbrev pub no_row : RowState
no_row = record { bits = []; argument = false; outer = false }

abbrev pub same_root : Root → Root → Bool
same_root (Local k) (Local l) = k.0 == l.0
same_root (Global g) (Global h) = g.0 == h.0
same_root _ _ = false

-- a pointer without a getelementptr
abbrev pub own_origin : ℕ → Origin
own_origin l = record { root = Local (record { 0 = l }); offset = pos 0 }

abbrev pub origin_at : List Origin → ℕ → Origin
origin_at origins l = slice_index_or origins l (own_origin l)

abbrev pub origin_of : List Origin → Root → Origin
origin_of origins (Local l) = origin_at origins l.0
origin_of origins (Global g) = record { root = Global g; offset = pos 0 }

abbrev pub origin_in : List Origin → Option Root → Option Origin
origin_in origins None = None
origin_in origins (Some p) = Some (origin_of origins p)

-- the root and offset of a value
abbrev pub val_origin : List Origin → Val → Option Origin
val_origin origins v = origin_in origins (pointer_of v)

abbrev pub span_at : ℕ → Option Origin → Option Reach
span_at len None = None
span_at len (Some o) = Some (Span o.root o.offset len)

-- what an instruction reads, and what it writes
abbrev pub read_reach : List Origin → Inst → Option Reach
read_reach origins (Load ty ptr tail) = span_at (size_of ty) (val_origin origins ptr)
read_reach origins (Copy to from len head tail) = span_at len (val_origin origins from.val)
read_reach origins (Call callee ret args effects head tail) = Some (Called (if effects.arg_read then args else []) effects.other_read effects.hidden_read)
read_reach origins _ = None

abbrev pub write_reach : List Origin → Inst → Option Reach
write_reach origins (Store ty val ptr tail) = span_at (size_of ty) (val_origin origins ptr)
write_reach origins (Copy to from len head tail) = span_at len (val_origin origins to.val)
write_reach origins (Call callee ret args effects head tail) = Some (Called (if effects.arg_write then args else []) effects.other_write effects.hidden_write)
write_reach origins _ = None

abbrev pub reach_of : Touch → Reach
reach_of (TouchSpan root from len) = Span root from len
reach_of (TouchCall args other hidden) = Called args.now other hidden

abbrev pub reach_in : Option Touch → Option Reach
reach_in None = None
reach_in (Some t) = Some (reach_of t)

abbrev pub bytes_at : ℕ → Option Origin → Option Loc
bytes_at len None = None
bytes_at len (Some o) = Some (Bytes o.root o.offset len)

-- the location that an instruction reads, and the bytes that it writes
abbrev pub read_loc : List Origin → InstNo → Inst → Option Loc
read_loc origins i (Load ty ptr tail) = bytes_at (size_of ty) (val_origin origins ptr)
read_loc origins i (Copy to from len head tail) = bytes_at len (val_origin origins from.val)
read_loc origins i (Call callee ret args effects head tail) = if effects.arg_read || effects.other_read || effects.hidden_read then Some (ReadBy i) else None
read_loc origins i _ = None

abbrev pub written_loc : List Origin → Inst → Option Loc
written_loc origins (Store ty val ptr tail) = bytes_at (size_of ty) (val_origin origins ptr)
written_loc origins (Copy to from len head tail) = bytes_at len (val_origin origins to.val)
written_loc origins _ = None

-- what the instruction of a number reads or writes by the tables
abbrev pub IsReadBy : FuncState → List Origin → ℕ → Reach → Type 0
IsReadBy f origins i u = (b : ℕ) × (place : ℕ) × (x : Placed) × IsAt f.blocks i b place x × (read_reach origins x.inst ≡ Some u)

abbrev pub IsWrittenBy : FuncState → List Origin → ℕ → Reach → Type 0
IsWrittenBy f origins i u = (b : ℕ) × (place : ℕ) × (x : Placed) × IsAt f.blocks i b place x × (write_reach origins x.inst ≡ Some u)

-- what a location is by the tables
abbrev pub IsReachBy : FuncState → List Origin → Loc → Reach → Type 0
IsReachBy f origins (Bytes root from len) u = u ≡ Span root from len
IsReachBy f origins (ReadBy j) u = IsReadBy f origins j.0 u

abbrev pub is_turning : List Bool → Root → Bool
is_turning turning (Local l) = slice_index_or turning l.0 false
is_turning turning (Global g) = false

abbrev pub set_of : BasesState → Root → Set
set_of t (Local l) = slice_index_or t.sets l.0 Nothing
set_of t (Global g) = Object g

abbrev pub row_of : BasesState → ℕ → RowState
row_of t l = slice_index_or t.rows l no_row

abbrev pub bit_of : RowState → ℕ → Bool
bit_of row c = slice_index_or row.bits c false

-- the mark of a row at the column of a global, which is the first one that has it
abbrev pub bit_at : RowState → Option ℕ → Bool
bit_at row None = false
bit_at row (Some c) = bit_of row c

abbrev pub global_column : BasesState → GlobalNo → Option ℕ
global_column t g = position (same_root (Global g)) t.columns

-- two lists have a mark at one place
abbrev pub share_mark : List Bool → List Bool → Bool
share_mark [] ys = false
share_mark (x ∷ xs) [] = false
share_mark (x ∷ xs) (y ∷ ys) = (x && y) || share_mark xs ys

-- two sets have an alloca or a global in common
abbrev pub have_common : BasesState → Set → Set → Bool
have_common t (Alloca c) (Alloca d) = c == d
have_common t (Alloca c) (Brought l) = bit_of (row_of t l) c
have_common t (Brought l) (Alloca c) = bit_of (row_of t l) c
have_common t (Object g) (Object h) = g.0 == h.0
have_common t (Object g) (Brought l) = bit_at (row_of t l) (global_column t g)
have_common t (Brought l) (Object g) = bit_at (row_of t l) (global_column t g)
have_common t (Brought k) (Brought l) = share_mark (row_of t k).bits (row_of t l).bits
have_common t _ _ = false

abbrev pub has_argument : BasesState → Set → Bool
has_argument t Argument = true
has_argument t (Brought l) = (row_of t l).argument
has_argument t _ = false

abbrev pub has_outer : BasesState → Set → Bool
has_outer t Argument = true
has_outer t (Object g) = true
has_outer t (Brought l) = (row_of t l).outer
has_outer t _ = false

-- a base of one set and one of the other may be one object
abbrev pub sets_meet : BasesState → Set → Set → Bool
sets_meet t s u = have_common t s u || (has_argument t s && has_outer t u) || (has_argument t u && has_outer t s)

-- the set has a captured alloca
abbrev pub is_caught : BasesState → List Bool → Set → Bool
is_caught t captured (Alloca c) = slice_index_or captured c false
is_caught t captured (Brought l) = share_mark (row_of t l).bits captured
is_caught t captured _ = false

-- the set has a base that may be what a call knows besides its arguments
abbrev pub is_known : BasesState → List Bool → Set → Bool
is_known t captured s = has_outer t s || is_caught t captured s

abbrev pub set_of_option : BasesState → Option Root → Set
set_of_option t None = Nothing
set_of_option t (Some p) = set_of t p

abbrev pub val_set : BasesState → Val → Set
val_set t v = set_of_option t (pointer_of v)

-- what the arguments of a call lead to meets a set
abbrev pub args_meet : BasesState → Set → List Arg → Bool
args_meet t s args = list_any (λ (a : Arg). sets_meet t (val_set t a.val) s) args

-- what a call reaches meets a set
abbrev pub call_meets : BasesState → List Bool → List Arg → Bool → Set → Bool
call_meets t captured args other s = args_meet t s args || (other && is_known t captured s)

-- what a call reaches meets what an argument of another leads to
abbrev pub call_meets_args : BasesState → List Bool → List Arg → Bool → List Arg → Bool
call_meets_args t captured args other others = list_any (λ (a : Arg). call_meets t captured args other (val_set t a.val)) others

-- what an argument of a call leads to is known to others
abbrev pub are_known : BasesState → List Bool → List Arg → Bool
are_known t captured args = list_any (λ (a : Arg). is_known t captured (val_set t a.val)) args

-- two calls meet
abbrev pub calls_meet : BasesState → List Bool → List Arg → Bool → Bool → List Arg → Bool → Bool → Bool
calls_meet t captured args other hidden args_2 other_2 hidden_2 =
    call_meets_args t captured args_2 other_2 args || (other && (other_2 || are_known t captured args_2)) || (hidden && hidden_2)

-- two ranges of bytes have one in common
abbrev pub ranges_meet : ℤ → ℕ → ℤ → ℕ → Bool
ranges_meet from len at size = nat_lt 0 len && nat_lt 0 size && int_lt from (at +ℤ pos size) && int_lt at (from +ℤ pos len)

-- two byte locations meet
abbrev pub spans_meet : AliasState → Root → ℤ → ℕ → Root → ℤ → ℕ → Bool
spans_meet a r from len s at size =
    if same_root r s && not (is_turning a.turning r) then ranges_meet from len at size else nat_lt 0 len && nat_lt 0 size && sets_meet a.bases (set_of a.bases r) (set_of a.bases s)

-- two reaches meet
abbrev pub reaches_meet : AliasState → Reach → Reach → Bool
reaches_meet a (Span r from len) (Span s at size) = spans_meet a r from len s at size
reaches_meet a (Span r from len) (Called args other hidden) = nat_lt 0 len && call_meets a.bases a.captured args other (set_of a.bases r)
reaches_meet a (Called args other hidden) (Span r from len) = nat_lt 0 len && call_meets a.bases a.captured args other (set_of a.bases r)
reaches_meet a (Called args other hidden) (Called args_2 other_2 hidden_2) = calls_meet a.bases a.captured args other hidden args_2 other_2 hidden_2

-- two reaches meet while roots stay what they are
abbrev pub reaches_meet_in_turn : AliasState → Reach → Reach → Bool
reaches_meet_in_turn a (Span r from len) (Span s at size) = if same_root r s then ranges_meet from len at size else spans_meet a r from len s at size
reaches_meet_in_turn a (Span r from len) (Called args other hidden) = reaches_meet a (Span r from len) (Called args other hidden)
reaches_meet_in_turn a (Called args other hidden) v = reaches_meet a (Called args other hidden) v

-- both are there, and meet by the test
abbrev pub meet_in : (Reach → Reach → Bool) → Option Reach → Option Reach → Bool
meet_in meets None v = false
meet_in meets (Some u) None = false
meet_in meets (Some u) (Some v) = meets u v

-- byte k is one of so many from an offset on
abbrev pub holds_byte : ℤ → ℕ → ℤ → Bool
holds_byte from len k = int_le from k && int_lt k (from +ℤ pos len)

-- bytes of the fixed root r, byte k among them
abbrev pub must_hold : AliasState → Option Reach → Root → ℤ → Bool
must_hold a (Some (Span r from len)) root k = same_root r root && not (is_turning a.turning root) && holds_byte from len k
must_hold a _ root k = false

-- the alloca is captured
abbrev pub caught_at : List Bool → Set → Bool
caught_at captured (Alloca c) = slice_index_or captured c false
caught_at captured _ = false

-- the base that is a pointer's own
abbrev pub base_of : Root → Base
base_of (Local l) = AllocaBase l
base_of (Global g) = ObjectBase g

-- the column of an alloca or a global
abbrev pub IsColumn : BasesState → Root → ℕ → Type 0
IsColumn t (Local l) c = set_of t (Local l) ≡ Alloca c
IsColumn t (Global g) c = global_column t g ≡ Some c

-- the row tells the bases of p
pub record IsRow (t : BasesState) (f : FuncState) (p : Root) (row : RowState) : Type 0 where
  pub sound : (c : ℕ) → bit_of row c ≡ true → (q : Root) × (slice_get t.columns c ≡ Some q) × HasBase f p (base_of q)
  pub complete : (q : Root) → HasBase f p (base_of q) → (c : ℕ) × IsColumn t q c × (bit_of row c ≡ true)
  pub argument : (row.argument ≡ true) ↔ ((l : LocalNo) × HasBase f p (ArgumentBase l))
  pub outer : (row.outer ≡ true) ↔ IsOuter f p

-- p has this base and no other
abbrev pub HasOneBase : FuncState → Root → Base → Type 0
HasOneBase f p b = HasBase f p b × ((c : Base) → HasBase f p c → c ≡ b)

-- the set tells the bases of p
abbrev pub IsSet : BasesState → FuncState → Root → Set → Type 0
IsSet t f p Nothing = (b : Base) → HasBase f p b → ⊥
IsSet t f p Argument = (l : LocalNo) × HasOneBase f p (ArgumentBase l)
IsSet t f p (Alloca c) = (l : LocalNo) × HasOneBase f p (AllocaBase l) × (slice_get t.columns c ≡ Some (Local l)) × IsColumn t (Local l) c
IsSet t f p (Object g) = HasOneBase f p (ObjectBase g)
IsSet t f p (Brought l) = IsRow t f p (row_of t l)

-- The tables tell a function's origins and turning roots, bases and captured allocas.
pub record IsOrigins (f : FuncState) (origins : List Origin) : Type 0 where
  pub each : (l : LocalNo) → HasRoot f (Local l) (origin_at origins l.0).root (origin_at origins l.0).offset

pub record IsTurnings (f : FuncState) (turning : List Bool) : Type 0 where
  pub each : (l : LocalNo) → (slice_index_or turning l.0 false ≡ true) ↔ IsTurning f (Local l)

pub record IsBases (t : BasesState) (f : FuncState) : Type 0 where
  pub each : (l : LocalNo) → IsSet t f (Local l) (set_of t (Local l))

pub record IsCaptures (t : BasesState) (f : FuncState) (captured : List Bool) : Type 0 where
  pub sound : (c : ℕ) → slice_index_or captured c false ≡ true → (l : LocalNo) × (slice_get t.columns c ≡ Some (Local l)) × IsCaptured f l
  pub complete : (l : LocalNo) → IsCaptured f l → (c : ℕ) × IsColumn t (Local l) c × (slice_index_or captured c false ≡ true)

-- the kind of a local that a set stands for
abbrev pub IsFor : BasesState → FuncState → LocalNo → Set → Type 0
IsFor t f l Nothing = (maker_of f l ≡ None) × (IsArgument f l → ⊥)
IsFor t f l Argument = (maker_of f l ≡ None) × IsArgument f l
IsFor t f l (Alloca c) = (slice_get t.columns c ≡ Some (Local l)) × ((m : Maker) × (maker_of f l ≡ Some m) × (is_alloca m.inst ≡ true)) × (IsArgument f l → ⊥)
IsFor t f l (Object g) = ⊥
IsFor t f l (Brought k) = (k ≡ l.0) × (length (row_of t k).bits ≡ length t.columns) × ((m : Maker) × (maker_of f l ≡ Some m) × (is_alloca m.inst ≡ false)) × (IsArgument f l → ⊥)

-- There is a set for each local, a row for each that an instruction brings, and a column for each alloca and each global that is brought.
pub record HasRoom (t : BasesState) (f : FuncState) : Type 0 where
  pub rows : length t.rows ≡ length t.sets
  pub sets : (l : LocalNo) → IsFor t f l (set_of t (Local l))
  pub globals : (p : Root) (g : GlobalNo) → Contains (leads_of f p) (Global g) → (c : ℕ) × (global_column t g ≡ Some c)

-- These are the tables of the function.
pub record IsAliasOf (f : FuncState) (a : AliasState) : Type 0 where
  pub room : HasRoom a.bases f
  pub origins : IsOrigins f a.origins
  pub turning : IsTurnings f a.turning
  pub bases : IsBases a.bases f
  pub captured : IsCaptures a.bases f a.captured

-- The same but for the roots that turn, the bases and the captured allocas, which are found afresh after an edge was cut.
pub record IsReady (f : FuncState) (a : AliasState) : Type 0 where
  pub room : HasRoom a.bases f
  pub origins : IsOrigins f a.origins

-- The same but for the captured allocas.
pub record HasPointers (f : FuncState) (a : AliasState) : Type 0 where
  pub room : HasRoom a.bases f
  pub origins : IsOrigins f a.origins
  pub turning : IsTurnings f a.turning
  pub bases : IsBases a.bases f

-- The marked columns are those of the captured allocas, where one instruction is left out.
pub record IsCapturesBut (t : BasesState) (f : FuncState) (skip : Option InstNo) (captured : List Bool) : Type 0 where
  pub sound : (c : ℕ) → slice_index_or captured c false ≡ true → (l : LocalNo) × (slice_get t.columns c ≡ Some (Local l)) × IsCapturedBut f skip l
  pub complete : (l : LocalNo) → IsCapturedBut f skip l → (c : ℕ) × IsColumn t (Local l) c × (slice_index_or captured c false ≡ true)
