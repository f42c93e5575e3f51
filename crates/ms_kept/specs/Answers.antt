-- Kept answers that are right, and which of them an edit leaves.
use Rattle.std.specs.Prelude.{◌≡◌, ◌↔◌, ℕ, ℤ, Bool, true, false, IsTrue, List, filter, Some, Contains, slice_get}
use Rattle.ms_ir.specs.declared.names.InstNo.{InstNo}
use Rattle.ms_ir.specs.declared.inst.Inst.{Inst}
use Rattle.ms_ir.specs.declared.inst.Kind.{Kind}
use Rattle.ms_ir.specs.declared.inst.Edit.{Edit}
use Rattle.ms_ir.specs.declared.inst.Edit.TheVariants.{Insert, Remove, Move, Unlink}
use Rattle.ms_ir.specs.Inst.{kind_of_inst}
use Rattle.ms_ir.specs.Func.{Placed, FuncState, insts_at}
use Rattle.ms_ir.specs.Graph.{is_def}
use Rattle.ms_ir.specs.Edits.{edited}
use Rattle.ms_build.specs.Accesses.{event_of}
use Rattle.ms_alias.specs.declared.loc.Root.{Root}
use Rattle.ms_alias.specs.declared.loc.Loc.{Loc}
use Rattle.ms_alias.specs.declared.loc.Loc.TheVariants.{Bytes, ReadBy}
use Rattle.ms_alias.specs.Roots.{HasRoot}
use Rattle.ms_alias.specs.Captured.{IsCaptured, Differ}
use Rattle.ms_alias.specs.Meeting.{MayWrite}
use Rattle.ms_walk.specs.Clobber.{IsClobber}
use Rattle.ms_cache.specs.declared.query.Query.{Query}
use Rattle.ms_cache.specs.declared.change.Change.{Change}
use Rattle.ms_cache.specs.Stays.{Kept}

-- what may be asked before instruction i: bytes at the root of a pointer, or what i itself reads
abbrev pub IsAskedLoc : FuncState → InstNo → Loc → Type 0
IsAskedLoc f i (Bytes root from len) = (p : Root) × (o : ℤ) × HasRoot f p root o
IsAskedLoc f i (ReadBy j) = j ≡ i

-- The access is the clobber of the query, whose instruction stands in a reached block, as a clobber's does.
pub record IsRight (f : FuncState) (x : Kept) : Type 0 where
  pub asked : IsAskedLoc f x.0.inst x.0.loc
  pub clobber : IsClobber f x.0.inst.0 x.0.loc (event_of x.1)

abbrev pub AreRight : FuncState → List Kept → Type 0
AreRight f kept = (x : Kept) → Contains kept x → IsRight f x

-- A change tells of an edit that put, took or moved the instruction of number n, of this kind, and made g of f.
pub record IsChangeOf (f g : FuncState) (n : ℕ) (kind : Kind) (c : Change) : Type 0 where
  pub inst : c.inst ≡ Some (record { 0 = n })
  pub def : c.def ≡ is_def kind
  pub own_only : c.own_only ≡ false
  pub captured : IsTrue c.captured ↔ Differ (IsCaptured f) (IsCaptured g)
  pub unlinked : c.unlinked ≡ false

-- A change tells that only what was kept of instruction n is to go: another source was given to it, or it gave way and was taken.
pub record IsOwnChange (n : ℕ) (c : Change) : Type 0 where
  pub inst : c.inst ≡ Some (record { 0 = n })
  pub own_only : c.own_only ≡ true

-- A change tells of an edge that was cut.
pub record IsCutChange (c : Change) : Type 0 where
  pub own_only : c.own_only ≡ false
  pub unlinked : c.unlinked ≡ true

-- the edit puts, takes or moves this instruction, which has number n
abbrev pub IsEditOf : FuncState → Edit → ℕ → Inst → Type 0
IsEditOf f (Insert block place inst name) n i = (n ≡ f.made) × (i ≡ inst)
IsEditOf f (Remove block place) n i = (x : Placed) × (slice_get (insts_at f.blocks block.0) place ≡ Some x) × (n ≡ x.number) × (i ≡ x.inst)
IsEditOf f (Move block place to_block to_place) n i = (x : Placed) × (slice_get (insts_at f.blocks block.0) place ≡ Some x) × (n ≡ x.number) × (i ≡ x.inst)
IsEditOf f (Unlink block slot) n i = ⊥

-- the function in which that instruction stands: behind an insert, before a remove or a move
abbrev pub judged : FuncState → Edit → FuncState
judged f (Insert block place inst name) = edited f (Insert block place inst name)
judged f (Remove block place) = f
judged f (Move block place to_block to_place) = f
judged f (Unlink block slot) = f

abbrev pub IsUnlink : Edit → Type 0
IsUnlink (Insert block place inst name) = ⊥
IsUnlink (Remove block place) = ⊥
IsUnlink (Move block place to_block to_place) = ⊥
IsUnlink (Unlink block slot) = Unit {0}

-- An answer stays behind an edit where its instruction was not removed or moved, no Def that may write its location was inserted, removed or moved, the
-- captured allocas are the same, and the edit is no unlink.
pub record StaysBehind (f : FuncState) (e : Edit) (q : Query) : Type 0 where
  pub other : (n : ℕ) (inst : Inst) → IsEditOf f e n inst → q.inst.0 ≡ n → ⊥
  pub unwritten : (n : ℕ) (inst : Inst) → IsEditOf f e n inst → is_def (kind_of_inst inst) ≡ true → MayWrite (judged f e) n q.loc → ⊥
  pub captures : Differ (IsCaptured f) (IsCaptured (edited f e)) → ⊥
  pub edges : IsUnlink e → ⊥

-- the answers that stay behind an edit, in the order in which they stood
abbrev pub KeepsBehind : FuncState → Edit → List Kept → List Kept → Type 0
KeepsBehind f e old new = (p : Kept → Bool) × ((x : Kept) → IsTrue (p x) ↔ StaysBehind f e x.0) × (new ≡ filter p old)

-- a change tells of this edit
abbrev pub IsToldOf : FuncState → Edit → Change → Type 0
IsToldOf f (Insert block place inst name) c = IsChangeOf f (edited f (Insert block place inst name)) f.made (kind_of_inst inst) c
IsToldOf f (Remove block place) c =
    (x : Placed) × (slice_get (insts_at f.blocks block.0) place ≡ Some x) × IsChangeOf f (edited f (Remove block place)) x.number (kind_of_inst x.inst) c
IsToldOf f (Move block place to_block to_place) c =
    (x : Placed) × (slice_get (insts_at f.blocks block.0) place ≡ Some x) × IsChangeOf f (edited f (Move block place to_block to_place)) x.number (kind_of_inst x.inst) c
IsToldOf f (Unlink block slot) c = IsCutChange c
