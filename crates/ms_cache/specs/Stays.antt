-- The answers that are kept, and which of them stay when a function changes.
use Rattle.std.specs.Prelude.{◌≡◌, ◌≢◌, ◌↔◌, ◌==◌, ◌&&◌, ◌||◌, not, Bool, true, false, IsTrue, List, filter, Option, Some, None, Contains, AllPairs}
use Rattle.ms_ir.specs.declared.names.InstNo.{InstNo}
use Rattle.ms_ir.specs.Func.{FuncState}
use Rattle.ms_form.specs.declared.access.Access.{Access}
use Rattle.ms_alias.specs.declared.loc.Loc.{Loc}
use Rattle.ms_alias.specs.Meeting.{MayWrite}
use Rattle.ms_alias.specs.Tables.{AliasState}
use Rattle.ms_alias.specs.Tests.{may_write_by}
use Rattle.ms_cache.specs.declared.query.Query.{Query}
use Rattle.ms_cache.specs.declared.change.Change.{Change}

abbrev pub query_of : InstNo → Loc → Query
query_of i loc = record { inst = i; loc = loc }

-- a query, and the access that answers it
abbrev pub Kept : Type 0
Kept = Query × Access

-- no answer of the query is kept
abbrev pub NotKept : List Kept → Query → Type 0
NotKept kept q = (a : Access) → Contains kept (q, a) → ⊥

-- no query stands twice
abbrev pub AreOnce : List Kept → Type 0
AreOnce kept = AllPairs (λ x y. x.0 ≢ y.0) kept

-- the query's instruction is the one of the change
abbrev pub IsOwn : Change → Query → Type 0
IsOwn e q = e.inst ≡ Some q.inst

-- a Def that may write the location was put, taken or moved
abbrev pub MovesWriter : FuncState → Change → Loc → Type 0
MovesWriter f e loc = (e.def ≡ true) × (i : InstNo) × (e.inst ≡ Some i) × MayWrite f i.0 loc

-- An answer stays where its instruction is not the one of the change, no Def that may write its location was put, taken or moved,
-- the captured allocas are the same, and no edge was cut. Where only the instruction's own answers go, the first alone is asked.
pub record Stays (f : FuncState) (e : Change) (q : Query) : Type 0 where
  pub other : IsOwn e q → ⊥
  pub unwritten : e.own_only ≡ false → MovesWriter f e q.loc → ⊥
  pub captures : e.own_only ≡ false → e.captured ≡ false
  pub edges : e.own_only ≡ false → e.unlinked ≡ false

-- the answers that stay, in the order in which they stood
abbrev pub AreWhatStays : FuncState → Change → List Kept → List Kept → Type 0
AreWhatStays f e old new = (p : Kept → Bool) × ((x : Kept) → IsTrue (p x) ↔ Stays f e x.0) × (new ≡ filter p old)

-- Locations count: a Def was put, taken or moved, and neither do all answers go anyway, nor the instruction's own alone.
abbrev pub AsksLocations : Change → Type 0
AsksLocations e = (e.def ≡ true) × (e.own_only ≡ false) × (e.captured ≡ false) × (e.unlinked ≡ false)

-- The same as a test, by the tables of the function's pointers: that the instruction is the change's own, that it may write a
-- location, and that an answer for a location stays, whatever other instruction asked.
abbrev pub is_own : Option InstNo → InstNo → Bool
is_own None j = false
is_own (Some i) j = i.0 == j.0

abbrev pub may_write_in : FuncState → AliasState → Option InstNo → Loc → Bool
may_write_in f a None loc = false
may_write_in f a (Some i) loc = may_write_by f a loc i.0

abbrev pub is_spared : FuncState → AliasState → Change → Loc → Bool
is_spared f a e loc = e.own_only || (not e.captured && not e.unlinked && not (e.def && may_write_in f a e.inst loc))

abbrev pub stays_by : FuncState → AliasState → Change → Query → Bool
stays_by f a e q = not (is_own e.inst q.inst) && is_spared f a e q.loc
