-- What is found on the first chain of a search.
use Rattle.std.specs.Prelude.{◌≡◌, ◌⊎◌, ℕ, Bool, true, List, length}
use Rattle.ms_ir.specs.declared.names.BlockNo.{BlockNo}
use Rattle.ms_ir.specs.declared.names.InstNo.{InstNo}
use Rattle.ms_form.specs.declared.access.Access.{Access}
use Rattle.ms_form.specs.declared.access.Access.TheVariants.{Entry, Of, Phi}
use Rattle.ms_form.specs.Form.{FormState}
use Rattle.ms_climb.specs.declared.near.Near.{Near}
use Rattle.ms_climb.specs.declared.near.Near.TheVariants.{Stop, Left}
use Rattle.ms_climb.specs.Chains.{IsChain}

-- the entry, or a Def that counts
abbrev pub IsStop : (ℕ → Bool) → Access → Type 0
IsStop E Entry = Unit {0}
IsStop E (Of i) = E i.0 ≡ true
IsStop E (Phi b) = ⊥

-- a chain leads from one access to a stop
pub record IsNear (f : FormState) (E : ℕ → Bool) (from to : Access) : Type 0 where
  pub passed : List InstNo
  pub chain : IsChain f E passed from to
  pub stop : IsStop E to

-- these Defs lead from one access to a phi, or are so many
pub record IsLeft (most : ℕ) (f : FormState) (E : ℕ → Bool) (from : Access) (passed : List InstNo) (at : Access) : Type 0 where
  pub chain : IsChain f E passed from at
  pub ends : ((b : BlockNo) × (at ≡ Phi b)) ⊎ (length passed ≡ most)

-- what is found on the chain from an access, of which so many Defs are passed at most
abbrev pub IsFirstChain : ℕ → FormState → (ℕ → Bool) → Access → Near → Type 0
IsFirstChain most f E from (Stop to) = IsNear f E from to
IsFirstChain most f E from (Left passed at) = IsLeft most f E from passed.items at
