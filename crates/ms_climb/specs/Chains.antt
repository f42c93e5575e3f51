-- Defs that were met on the way up, and the stops of their chains.
use Rattle.std.specs.Prelude.{◌≡◌, ◌<◌, ◌⊎◌, ◌++◌, ◌∷◌, [], ℕ, Bool, true, false, List, length, Option, Some, None, slice_index_or, IsSome}
use Rattle.ms_ir.specs.declared.names.InstNo.{InstNo}
use Rattle.ms_form.specs.declared.access.Access.{Access}
use Rattle.ms_form.specs.declared.access.Access.TheVariants.{Entry, Of, Phi}
use Rattle.ms_form.specs.Form.{FormState}
use Rattle.ms_build.specs.Accesses.{defining_at}
use Rattle.ms_climb.specs.declared.chains.Mark.{Mark}
use Rattle.ms_climb.specs.declared.chains.Mark.TheVariants.{Counts, Passed}

-- What is known of each Def that was met, by instruction; and the stop of each chain.
pub record ChainsState : Type 0 where
  pub marks : List (Option Mark)
  pub stops : List Access

-- an access, the entry where there is none
abbrev pub or_entry : Option Access → Access
or_entry None = Entry
or_entry (Some a) = a

-- the access before an instruction
abbrev pub before_of : FormState → ℕ → Access
before_of f i = or_entry (defining_at f i)

-- from one access, by these Defs, each with the one before it, to another; none of them counts
abbrev pub IsChain : FormState → (ℕ → Bool) → List InstNo → Access → Access → Type 0
IsChain f E [] from to = from ≡ to
IsChain f E (i ∷ is) from to = (from ≡ Of i) × (E i.0 ≡ false) × IsChain f E is (before_of f i.0) to

-- where a chain by these Defs to an access begins
abbrev pub first_of : List InstNo → Access → Access
first_of [] to = to
first_of (i ∷ is) to = Of i

-- a chain by these Defs leads to an access
abbrev pub LeadTo : FormState → (ℕ → Bool) → List InstNo → Access → Type 0
LeadTo f E is to = IsChain f E is (first_of is to) to

abbrev pub mark_at : ChainsState → ℕ → Option Mark
mark_at s i = slice_index_or s.marks i None

-- the stop of a Def: that of its chain if it was passed, else the Def
abbrev pub stop_by : ChainsState → InstNo → Option Mark → Access
stop_by s i None = Of i
stop_by s i (Some Counts) = Of i
stop_by s i (Some (Passed chain)) = slice_index_or s.stops chain Entry

-- where the way up from an access stops
abbrev pub stop_of : ChainsState → Access → Access
stop_of s Entry = Entry
stop_of s (Of i) = stop_by s i (mark_at s i.0)
stop_of s (Phi b) = Phi b

-- the access is no Def that is still to be met
abbrev pub IsMet : ChainsState → Access → Type 0
IsMet s Entry = Unit {0}
IsMet s (Of i) = i.0 < length s.marks → IsSome (mark_at s i.0)
IsMet s (Phi b) = Unit {0}

-- a Def that was passed does not count, and its chain goes on where it goes on
pub record IsPassed (f : FormState) (E : ℕ → Bool) (s : ChainsState) (i chain : ℕ) : Type 0 where
  pub passes : E i ≡ false
  pub known : chain < length s.stops
  pub met : IsMet s (before_of f i)
  pub stop : stop_of s (before_of f i) ≡ slice_index_or s.stops chain Entry

-- each Def that was met counts, or was passed
pub record IsClimbed (f : FormState) (E : ℕ → Bool) (s : ChainsState) : Type 0 where
  pub counts : (i : ℕ) → mark_at s i ≡ Some Counts → E i ≡ true
  pub passed : (i chain : ℕ) → mark_at s i ≡ Some (Passed chain) → IsPassed f E s i chain

-- what is known of Defs stays
pub record KeepsMarks (old new : ChainsState) : Type 0 where
  pub size : length new.marks ≡ length old.marks
  pub marks : (i : ℕ) (m : Mark) → mark_at old i ≡ Some m → mark_at new i ≡ Some m

-- one more chain was climbed, from this access to this stop
pub record IsClimb (f : FormState) (E : ℕ → Bool) (from stop : Access) (old new : ChainsState) : Type 0 where
  pub climbed : IsClimbed f E new
  pub keeps : KeepsMarks old new
  pub met : IsMet new from
  pub leads : stop_of new from ≡ stop
  pub stops : new.stops ≡ old.stops ++ stop ∷ []

-- the Def was passed on this chain
abbrev pub OnChain : ChainsState → ℕ → Access → Type 0
OnChain s n Entry = ⊥
OnChain s n (Of i) = mark_at s i.0 ≡ Some (Passed n)
OnChain s n (Phi b) = ⊥

-- the way from an access goes on where the climb is
abbrev pub IsToward : ChainsState → ℕ → Access → Access → Type 0
IsToward s n at a = (a ≡ at) ⊎ OnChain s n a

-- what was found of a Def that was not met before
abbrev pub IsFound : FormState → (ℕ → Bool) → ℕ → ChainsState → Access → ℕ → Option Mark → Type 0
IsFound f E n s at i None = Unit {0}
IsFound f E n s at i (Some Counts) = E i ≡ true
IsFound f E n s at i (Some (Passed c)) = (c ≡ n) × (E i ≡ false) × IsToward s n at (before_of f i)

-- a climb of one more chain from an access has come to another
pub record IsClimbing (f : FormState) (E : ℕ → Bool) (from at : Access) (old now : ChainsState) : Type 0 where
  pub keeps : KeepsMarks old now
  pub stops : now.stops ≡ old.stops
  pub found : (i : ℕ) → mark_at old i ≡ None → IsFound f E (length old.stops) now at i (mark_at now i)
  pub start : IsToward now (length old.stops) at from
