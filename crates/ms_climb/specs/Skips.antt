-- Phis that are left out, because all their ways lead to one access.
use Rattle.std.specs.Prelude.{◌≡◌, ◌≢◌, ◌<◌, ◌+◌, ◌^◌, ◌⊎◌, ℕ, List, length, Option, Some, None, slice_index_or, slice_set}
use Rattle.ms_ir.specs.declared.names.BlockNo.{BlockNo}
use Rattle.ms_paths.specs.Flow.{Block as Run}
use Rattle.ms_flow.specs.Flow.{sources_of}
use Rattle.ms_form.specs.declared.access.Access.{Access}
use Rattle.ms_form.specs.declared.access.Access.TheVariants.{Entry, Of, Phi}
use Rattle.ms_form.specs.Form.{FormState}
use Rattle.ms_climb.specs.declared.skips.Skip.{Skip}
use Rattle.ms_climb.specs.Options.{free}
use Rattle.ms_climb.specs.Chains.{stop_of}
use Rattle.ms_climb.specs.Walk.{WalkState, brought_of, phi_at}

-- By block, where its phi leads if it is left out; and how many are.
pub record SkipsState : Type 0 where
  pub skips : List (Option Skip)
  pub turns : ℕ

-- where an access leads on, if it is a phi that is left out
abbrev pub skip_of : SkipsState → Access → Option Skip
skip_of s Entry = None
skip_of s (Of i) = None
skip_of s (Phi b) = slice_index_or s.skips b.0 None

-- how many phis are not left out
abbrev pub kept_count : SkipsState → ℕ
kept_count s = free s.skips

-- Phis that are left out have turns, and what one leads to is left out later, if at all.
pub record HasTurns (s : SkipsState) : Type 0 where
  pub past : (a : Access) (k : Skip) → skip_of s a ≡ Some k → k.turn < s.turns
  pub later : (a : Access) (k m : Skip) → skip_of s a ≡ Some k → skip_of s k.to ≡ Some m → k.turn < m.turn

-- each access that is left out leads where the next one leads, and each other one to itself
pub record IsLeading (s : SkipsState) (leads : Access → Access) : Type 0 where
  pub kept : (a : Access) → skip_of s a ≡ None → leads a ≡ a
  pub skipped : (a : Access) (k : Skip) → skip_of s a ≡ Some k → leads a ≡ leads k.to

-- where the way over the edge at a slot of a block leads
abbrev pub way_of : FormState → WalkState → (Access → Access) → BlockNo → ℕ → Access
way_of f w leads b slot = leads (stop_of w.chains (brought_of f b.0 slot))

-- The first ways into a block all lead to its own phi or to this access. Into the entry block comes Entry too.
abbrev pub IsTrivialWay : FormState → WalkState → (Access → Access) → BlockNo → ℕ → Access → Type 0
IsTrivialWay f w leads b slots a = (b.0 ≡ 0 → a ≡ Entry) × ((slot : ℕ) → slot < slots → (way_of f w leads b slot ≡ a) ⊎ (way_of f w leads b slot ≡ Phi b))

-- they do, and this is another access than the phi, which is not left out
pub record IsOnlyWay (f : FormState) (w : WalkState) (s : SkipsState) (b : BlockNo) (slots : ℕ) (a : Access) : Type 0 where
  pub other : a ≢ Phi b
  pub kept : skip_of s a ≡ None
  pub trivial : (leads : Access → Access) → IsLeading s leads → IsTrivialWay f w leads b slots a

-- they do not, whatever the access
abbrev pub HasTwoWays : FormState → WalkState → SkipsState → BlockNo → ℕ → Type 0
HasTwoWays f w s b slots = (leads : Access → Access) → IsLeading s leads → (a : Access) → IsTrivialWay f w leads b slots a → ⊥

-- the phi of a block is left out for an access
abbrev pub left_out : BlockNo → Access → SkipsState → SkipsState
left_out b a s = record { skips = slice_set s.skips b.0 (Some (record { to = a; turn = s.turns })); turns = s.turns + 1 }

-- all ways into a phi that is left out lead where it leads
pub record IsBrought (g : List Run) (f : FormState) (w : WalkState) (leads : Access → Access) (b : BlockNo) : Type 0 where
  pub entry : b.0 ≡ 0 → leads (Phi b) ≡ Entry
  pub ways : (slot : ℕ) → slot < length (sources_of g b.0) → way_of f w leads b slot ≡ leads (Phi b)

-- phis are left out whose ways all lead to one access
pub record IsSkipping (g : List Run) (f : FormState) (w : WalkState) (s : SkipsState) : Type 0 where
  pub turns : HasTurns s
  pub leads : Access → Access
  pub leading : IsLeading s leads
  pub brought : (b : BlockNo) (k : Skip) → skip_of s (Phi b) ≡ Some k → IsBrought g f w leads b
  pub blocks : length s.skips ≡ length g
  pub count : kept_count s + s.turns ≡ length s.skips
  pub few : length s.skips < 2 ^ 32

-- if the phi of a block is not left out, its ways lead to two accesses
abbrev pub IsDone : List Run → FormState → WalkState → SkipsState → BlockNo → Type 0
IsDone g f w s b = skip_of s (Phi b) ≡ None → HasTwoWays f w s b (length (sources_of g b.0))

-- so for the first n phis that were met
abbrev pub AreDone : List Run → FormState → WalkState → SkipsState → ℕ → Type 0
AreDone g f w s n = (k : ℕ) → k < n → IsDone g f w s (phi_at w k)

-- more phis are left out
abbrev pub HasFewer : SkipsState → SkipsState → Type 0
HasFewer old new = kept_count new < kept_count old

-- no phi that was met is left to be left out
pub record IsSettled (g : List Run) (f : FormState) (w : WalkState) (s : SkipsState) : Type 0 where
  pub skipping : IsSkipping g f w s
  pub done : AreDone g f w s (length w.phis)
