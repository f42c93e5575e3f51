-- A form behind a cut edge.
use Rattle.std.specs.Prelude.{◌≡◌, ◌<◌, ◌≤◌, ◌==◌, ℕ, false, List, length, Option, Some, None, slice_get, nat_lt, if◌then◌else◌}
use Rattle.ms_paths.specs.Flow.{Block as Run, IsReached}
use Rattle.ms_ir.specs.Func.{Placed, Block, insts_at}
use Rattle.ms_flow.specs.declared.sources.Source.{Source}
use Rattle.ms_flow.specs.Flow.{sources_of}
use Rattle.ms_form.specs.declared.access.Access.{Access}
use Rattle.ms_form.specs.declared.access.User.{User}
use Rattle.ms_form.specs.declared.access.User.TheVariants.{Inst, Operand, Entering}
use Rattle.ms_form.specs.Form.{FormState, KeepsPlaces}
use Rattle.ms_build.specs.Accesses.{has_phi, enters_at, operand_at, defining_at}

-- What comes over the edge at a slot of a block: the operand of the slot where the edge stood before. Past the edges there is none.
abbrev pub operand_over : List Run → (ℕ → ℕ → ℕ) → FormState → ℕ → ℕ → Option Access
operand_over g before f b slot = if nat_lt slot (length (sources_of g b)) then operand_at f b (before b slot) else None

-- the operands of one block stand where their edges stand now
abbrev pub one_moved : List Run → (ℕ → ℕ → ℕ) → FormState → ℕ → User → Option Access → Option Access
one_moved g before f b (Inst i) x = x
one_moved g before f b (Operand c slot) x = if c.0 == b then operand_over g before f c.0 slot else x
one_moved g before f b (Entering c) x = x

-- the operands of the first n blocks stand where their edges stand now
abbrev pub all_moved : List Run → (ℕ → ℕ → ℕ) → FormState → ℕ → User → Option Access → Option Access
all_moved g before f n (Inst i) x = x
all_moved g before f n (Operand c slot) x = if nat_lt c.0 n then operand_over g before f c.0 slot else x
all_moved g before f n (Entering c) x = x

-- each edge to a block stood among those that led there before, at its slot or behind, and left the same block
pub record StoodBefore (old new : List Run) (before : ℕ → ℕ → ℕ) : Type 0 where
  pub over : (b slot : ℕ) (e : Source) → slice_get (sources_of new b) slot ≡ Some e → (d : Source) × (slice_get (sources_of old b) (before b slot) ≡ Some d) × (d.from ≡ e.from)
  pub behind : (b slot : ℕ) → b < length new → slot < length (sources_of new b) → slot ≤ before b slot

-- a block of the graph that no path reaches
abbrev pub IsLost : List Run → ℕ → Type 0
IsLost g b = (b < length g) × (IsReached g b → ⊥)

-- Instructions at these places name no access any more, and of these blocks nothing is told; all else stays.
pub record AreCleared (blocks : List Block) (places : ℕ → ℕ → Type 0) (of : ℕ → Type 0) (old new : FormState) : Type 0 where
  pub defs : (b k : ℕ) (x : Placed) → places b k → slice_get (insts_at blocks b) k ≡ Some x → defining_at new x.number ≡ None
  pub other_defs : (i : ℕ) → ((b k : ℕ) (x : Placed) → places b k → slice_get (insts_at blocks b) k ≡ Some x → x.number ≡ i → ⊥) → defining_at new i ≡ defining_at old i
  pub phis : (b : ℕ) → of b → has_phi new b ≡ false
  pub other_phis : (b : ℕ) → (of b → ⊥) → has_phi new b ≡ has_phi old b
  pub enters : (b : ℕ) → of b → enters_at new b ≡ None
  pub other_enters : (b : ℕ) → (of b → ⊥) → enters_at new b ≡ enters_at old b
  pub operands : (b slot : ℕ) → operand_at new b slot ≡ operand_at old b slot
  pub lasts : new.lasts ≡ old.lasts
  pub blocks_stay : length new.phis ≡ length old.phis
  pub numbers : length new.defs ≡ length old.defs
  pub spare : new.spare ≡ old.spare
  pub places_stay : KeepsPlaces old new
