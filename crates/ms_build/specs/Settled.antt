-- Forms whose trivial phis are gone, as in the construction of Braun et al. (2013).
use Rattle.std.specs.Prelude.{◌≡◌, ◌<◌, ◌⊎◌, ℕ, true, false, List, [], length, Option, Some, None, slice_index_or, if◌then◌else◌}
use Rattle.ms_paths.specs.Flow.{Block as Run}
use Rattle.ms_flow.specs.Flow.{sources_of}
use Rattle.ms_form.specs.declared.access.Access.{Access}
use Rattle.ms_form.specs.declared.access.Access.TheVariants.{Entry, Of, Phi}
use Rattle.ms_form.specs.Form.{FormState, entering_of}
use Rattle.ms_build.specs.Accesses.{has_phi, enters_at, operand_at, defining_at}

-- how many slots for operands a block has, which may be more than the edges that lead to it
abbrev pub slot_count : FormState → ℕ → ℕ
slot_count f b = length (slice_index_or f.operands b [])

-- The operands of a block, one for each edge to it from a reached block, are its own phi and this access alone. Into the entry
-- block comes Entry too. Of a block that is not reached there are none, so that each access is one.
abbrev pub IsTrivial : List Run → FormState → ℕ → Access → Type 0
IsTrivial g f b a = (b ≡ 0 → a ≡ Entry)
    × ((slot : ℕ) → slot < length (sources_of g b) → (operand_at f b slot ≡ Some a) ⊎ (operand_at f b slot ≡ Some (Phi (record { 0 = b }))))

-- No phi is trivial. So blocks that are not reached have none.
abbrev pub NoTrivial : List Run → FormState → Type 0
NoTrivial g f = (b : ℕ) (a : Access) → has_phi f b ≡ true → IsTrivial g f b a → ⊥

-- the phi of a block was taken out
abbrev pub IsRemoved : FormState → FormState → ℕ → Type 0
IsRemoved old new b = (has_phi old b ≡ true) × (has_phi new b ≡ false)

-- what an entry names now: for a phi that was taken out, what enters its block
abbrev pub renamed : FormState → FormState → Option Access → Option Access
renamed old new None = None
renamed old new (Some Entry) = Some Entry
renamed old new (Some (Of i)) = Some (Of i)
renamed old new (Some (Phi b)) = if has_phi old b.0 then entering_of new b else Some (Phi b)

-- Phis are taken out, their operands are cleared, and what named one of them names what enters its block now. All else stays.
pub record IsSettled (old new : FormState) : Type 0 where
  pub blocks : length new.phis ≡ length old.phis
  pub none_new : (b : ℕ) → has_phi new b ≡ true → has_phi old b ≡ true
  pub cleared : (b slot : ℕ) → IsRemoved old new b → operand_at new b slot ≡ None
  pub operands : (b slot : ℕ) → has_phi new b ≡ has_phi old b → operand_at new b slot ≡ renamed old new (operand_at old b slot)
  pub enters : (b : ℕ) → has_phi new b ≡ has_phi old b → enters_at new b ≡ renamed old new (enters_at old b)
  pub defs : (i : ℕ) → defining_at new i ≡ renamed old new (defining_at old i)
  pub lasts : new.lasts ≡ old.lasts
  pub spare : new.spare ≡ old.spare
