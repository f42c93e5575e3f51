-- The accesses that a search reaches.
use Rattle.std.specs.Prelude.{◌≡◌, ◌<◌, ◌≤◌, ◌+◌, ◌++◌, ◌∷◌, [], ℕ, Bool, true, false, not, ◌&&◌, nat_lt, if◌then◌else◌, List, length, slice_index_or, slice_set}
use Rattle.ms_ir.specs.declared.names.BlockNo.{BlockNo}
use Rattle.ms_paths.specs.Flow.{Block as Run}
use Rattle.ms_flow.specs.Flow.{sources_of}
use Rattle.ms_form.specs.declared.access.Access.{Access}
use Rattle.ms_form.specs.declared.access.Access.TheVariants.{Entry, Of, Phi}
use Rattle.ms_form.specs.Form.{FormState}
use Rattle.ms_build.specs.Accesses.{operand_at}
use Rattle.ms_climb.specs.Chains.{ChainsState, or_entry, IsMet, IsClimbed, KeepsMarks}

-- What is known of Defs; which blocks have a phi that was met, and these in the order of meeting.
pub record WalkState : Type 0 where
  pub chains : ChainsState
  pub met : List Bool
  pub phis : List BlockNo

-- what comes into a phi over the edge at a slot
abbrev pub brought_of : FormState → ℕ → ℕ → Access
brought_of f b slot = or_entry (operand_at f b slot)

abbrev pub has_met : WalkState → ℕ → Bool
has_met w b = slice_index_or w.met b false

abbrev pub no_phi : BlockNo
no_phi = record { 0 = 0 }

abbrev pub phi_at : WalkState → ℕ → BlockNo
phi_at w k = slice_index_or w.phis k no_phi

-- one more phi is met, if it was not met before
abbrev pub with_phi : BlockNo → WalkState → WalkState
with_phi b w = record { chains = w.chains; met = slice_set w.met b.0 true; phis = w.phis ++ b ∷ [] }

abbrev pub with_met : Access → WalkState → WalkState
with_met Entry w = w
with_met (Of i) w = w
with_met (Phi b) w = if nat_lt b.0 (length w.met) && not (has_met w b.0) then with_phi b w else w

-- the access is no phi that is still to be met
abbrev pub Knows : WalkState → Access → Type 0
Knows w Entry = Unit {0}
Knows w (Of i) = Unit {0}
Knows w (Phi b) = b.0 < length w.met → has_met w b.0 ≡ true

-- the access was reached
abbrev pub Sees : WalkState → Access → Type 0
Sees w a = IsMet w.chains a × Knows w a

-- how many blocks are not marked
abbrev pub unmet : List Bool → ℕ
unmet [] = 0
unmet (true ∷ bs) = unmet bs
unmet (false ∷ bs) = 1 + unmet bs

-- a phi stands in the list
pub record IsListed (w : WalkState) (b : ℕ) : Type 0 where
  pub place : ℕ
  pub below : place < length w.phis
  pub at : (phi_at w place).0 ≡ b

-- Chains are climbed to their stops, and where they stop at a phi, it was met. The phis that were met are listed.
pub record IsWalked (f : FormState) (E : ℕ → Bool) (w : WalkState) : Type 0 where
  pub climbed : IsClimbed f E w.chains
  pub stops : (chain : ℕ) → Knows w (slice_index_or w.chains.stops chain Entry)
  pub listed : (b : ℕ) → has_met w b ≡ true → IsListed w b
  pub below : (k : ℕ) → k < length w.phis → (phi_at w k).0 < length w.met
  pub count : length w.phis + unmet w.met ≡ length w.met

-- what was reached stays
pub record IsGrown (old new : WalkState) : Type 0 where
  pub chains : KeepsMarks old.chains new.chains
  pub blocks : length new.met ≡ length old.met
  pub met : (b : ℕ) → has_met old b ≡ true → has_met new b ≡ true
  pub longer : length old.phis ≤ length new.phis
  pub phis : (k : ℕ) → k < length old.phis → phi_at new k ≡ phi_at old k

-- one more access is reached
pub record IsStep (f : FormState) (E : ℕ → Bool) (a : Access) (old new : WalkState) : Type 0 where
  pub walked : IsWalked f E new
  pub grown : IsGrown old new
  pub sees : Sees new a

-- the first operands of a block are reached
pub record IsOpened (f : FormState) (E : ℕ → Bool) (b : BlockNo) (slots : ℕ) (old new : WalkState) : Type 0 where
  pub walked : IsWalked f E new
  pub grown : IsGrown old new
  pub sees : (slot : ℕ) → slot < slots → Sees new (brought_of f b.0 slot)

-- the operands of the first n listed phis are reached
abbrev pub AreOpened : List Run → FormState → ℕ → WalkState → Type 0
AreOpened g f n w = (k slot : ℕ) → k < n → slot < length (sources_of g (phi_at w k).0) → Sees w (brought_of f (phi_at w k).0 slot)

-- all accesses are reached to which the way up from one leads
pub record IsCollected (g : List Run) (f : FormState) (E : ℕ → Bool) (insts : ℕ) (start : Access) (w : WalkState) : Type 0 where
  pub walked : IsWalked f E w
  pub insts_are : length w.chains.marks ≡ insts
  pub blocks : length w.met ≡ length g
  pub sees : Sees w start
  pub opened : AreOpened g f (length w.phis) w
