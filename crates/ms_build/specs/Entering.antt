-- How blocks are entered in an order.
use Rattle.std.specs.Prelude.{◌≡◌, ◌<◌, ◌⊎◌, ℕ, true, false, List, length, Option, Some, None, IsSome, slice_get, slice_index_or, slice_set, if◌then◌else◌, ◌==◌}
use Rattle.ms_paths.specs.Flow.{Block as Run}
use Rattle.ms_ir.specs.declared.names.BlockNo.{BlockNo}
use Rattle.ms_flow.specs.declared.sources.Source.{Source}
use Rattle.ms_flow.specs.Flow.{sources_of, order_of}
use Rattle.ms_form.specs.declared.access.Access.{Access}
use Rattle.ms_form.specs.declared.access.Access.TheVariants.{Entry}
use Rattle.ms_form.specs.declared.access.User.{User}
use Rattle.ms_form.specs.declared.access.User.TheVariants.{Inst, Operand, Entering}
use Rattle.ms_form.specs.Form.{FormState}
use Rattle.ms_build.specs.Accesses.{has_phi, enters_at, operand_at, defining_at, entering_at, leaving_at}
use Rattle.ms_build.specs.Filled.{IsBelow}
use Rattle.ms_build.specs.Changes.{IsChanged, one_set}

-- the block is entered, and this access leaves it
pub record IsLeaving (f : FormState) (x : ℕ) (a : Access) : Type 0 where
  pub start : Access
  pub entered : entering_at f x ≡ Some start
  pub leaves : leaving_at f x ≡ Some a

-- Over each edge to a block comes this access, and each block that it leaves is entered. Into the entry block comes Entry too.
abbrev pub IsCommon : List Run → FormState → ℕ → Access → Type 0
IsCommon g f b a = (b ≡ 0 → a ≡ Entry) × ((slot : ℕ) (e : Source) → slice_get (sources_of g b) slot ≡ Some e → IsLeaving f e.from a)

-- A block gets a phi exactly where no one access is common to its edges, else that access enters it.
pub record IsGivenPhi (g : List Run) (b : BlockNo) (old new : FormState) : Type 0 where
  pub none : (a : Access) → IsCommon g old b.0 a → ⊥
  pub phi : new ≡ record old { phis = slice_set old.phis b.0 true }

pub record IsGivenOne (g : List Run) (b : BlockNo) (old new : FormState) : Type 0 where
  pub access : Access
  pub common : IsCommon g old b.0 access
  pub changed : IsChanged (one_set (Entering b) (Some access)) old new

abbrev pub IsEntered : List Run → BlockNo → FormState → FormState → Type 0
IsEntered g b old new = IsGivenPhi g b old new ⊎ IsGivenOne g b old new

-- at each place of the order stands its block
abbrev pub IsOrdered : List Run → List (Option ℕ) → Type 0
IsOrdered g list = (k b : ℕ) → (slice_index_or list k None ≡ Some b → order_of g b ≡ Some k) × (order_of g b ≡ Some k → slice_index_or list k None ≡ Some b)

-- what comes over the edge at a slot, or what there was where there is no edge
abbrev pub brought_by : FormState → Option Access → Option Source → Option Access
brought_by f x None = x
brought_by f x (Some e) = leaving_at f e.from

abbrev pub brought : List Run → FormState → ℕ → ℕ → Option Access → Option Access
brought g f b slot x = brought_by f x (slice_get (sources_of g b) slot)

-- the operands of one block are what comes over its edges
abbrev pub one_filled : List Run → FormState → ℕ → User → Option Access → Option Access
one_filled g f b (Inst i) x = x
one_filled g f b (Operand c slot) x = if c.0 == b then brought g f b slot x else x
one_filled g f b (Entering c) x = x

-- the operands of each block with a phi are what comes over its edges
abbrev pub all_filled : List Run → FormState → User → Option Access → Option Access
all_filled g f (Inst i) x = x
all_filled g f (Operand c slot) x = if has_phi f c.0 then brought g f c.0 slot x else x
all_filled g f (Entering c) x = x

-- for each last Def there is a place
abbrev pub AreLastsThere : FormState → Type 0
AreLastsThere f = (b : ℕ) → IsBelow (length f.defs) (slice_index_or f.lasts b None)

-- no block is entered yet, and no access is named
pub record IsBlank (f : FormState) : Type 0 where
  pub phis : (b : ℕ) → has_phi f b ≡ false
  pub enters : (b : ℕ) → enters_at f b ≡ None
  pub operands : (b slot : ℕ) → operand_at f b slot ≡ None
  pub defs : (i : ℕ) → defining_at f i ≡ None

-- the block is one of the first n in the order
pub record IsPast (g : List Run) (n b : ℕ) : Type 0 where
  pub place : ℕ
  pub placed : order_of g b ≡ Some place
  pub below : place < n

-- The first n blocks in the order are entered, with phis or by the access that comes over each edge; nothing else is filled.
pub record AreEntered (g : List Run) (n : ℕ) (f : FormState) : Type 0 where
  pub entry : IsPast g n 0 → has_phi f 0 ≡ false → enters_at f 0 ≡ Some Entry
  pub filled : (b : ℕ) → IsPast g n b → IsSome (entering_at f b)
  pub enters : (b slot : ℕ) (e : Source) → IsPast g n b → has_phi f b ≡ false → slice_get (sources_of g b) slot ≡ Some e → IsSome (entering_at f e.from) × (enters_at f b ≡ leaving_at f e.from)
  pub later : (b : ℕ) → (IsPast g n b → ⊥) → (has_phi f b ≡ false) × (enters_at f b ≡ None)
  pub with_phi : (b : ℕ) → has_phi f b ≡ true → enters_at f b ≡ None
  pub operands : (b slot : ℕ) → operand_at f b slot ≡ None
  pub defs : (i : ℕ) → defining_at f i ≡ None
