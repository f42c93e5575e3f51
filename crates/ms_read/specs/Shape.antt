-- What the places of lines come to: a module is functions and lines outside them, and a function is blocks.
use Rattle.std.specs.Prelude.{◌≡◌, ◌⊎◌, ℕ, Bool, true, false, List, [], ◌∷◌, ◌++◌, Some}
use Rattle.std.specs.List.{flat_map}
use Rattle.ms_grammar.specs.Kept.{Each}
use Rattle.ms_line.specs.declared.sort.Sort.{Sort}
use Rattle.ms_line.specs.declared.sort.Sort.TheVariants.{Item, Define, Close, Label, Phi, Alloca, Other, Term}
use Rattle.ms_read.specs.Places.{next_place}
use Rattle.ms_read.specs.declared.place.Place.{Place}
use Rattle.ms_read.specs.declared.place.Place.TheVariants.{Outside, Begun, Front, Inner, Ended}

-- an instruction that is no phi; an alloca stands in a function's first block alone
abbrev pub MayFollow : Bool → Sort → Type 0
MayFollow first sort = (sort ≡ Other) ⊎ ((sort ≡ Alloca) × (first ≡ true))

-- a block behind its label line: phis, then other instructions, then one terminator
pub record IsBlock (first : Bool) (sorts : List Sort) : Type 0 where
  pub phis : List Sort
  pub insts : List Sort
  pub are_phis : Each (λ sort. sort ≡ Phi) phis
  pub are_insts : Each (MayFollow first) insts
  pub whole : sorts ≡ phis ++ insts ++ Term ∷ []

-- blocks, each behind its label line
pub record AreBlocks (sorts : List Sort) : Type 0 where
  pub blocks : List (List Sort)
  pub each : Each (IsBlock false) blocks
  pub whole : sorts ≡ flat_map (λ block. Label ∷ block) blocks

-- a define line, a first block that may lack its label line, further blocks, and a close line
pub record IsFunction (sorts : List Sort) : Type 0 where
  pub label : List Sort
  pub first : List Sort
  pub more : List Sort
  pub may_lack : (label ≡ []) ⊎ (label ≡ Label ∷ [])
  pub first_is : IsBlock true first
  pub more_are : AreBlocks more
  pub whole : sorts ≡ Define ∷ label ++ first ++ more ++ Close ∷ []

-- functions, and lines outside functions
pub record IsModule (sorts : List Sort) : Type 0 where
  pub parts : List (List Sort)
  pub each : Each (λ part. (part ≡ Item ∷ []) ⊎ IsFunction part) parts
  pub whole : sorts ≡ flat_map (λ part. part) parts

-- whether a line begins a function, and whether it ends a block
abbrev pub is_define : Sort → Bool
is_define Define = true
is_define _ = false

abbrev pub is_term : Sort → Bool
is_term Term = true
is_term _ = false

-- one in a block whose terminator is to come, and else none
abbrev pub open_blocks : Place → ℕ
open_blocks Outside = 0
open_blocks Begun = 0
open_blocks (Front _) = 1
open_blocks (Inner _) = 1
open_blocks Ended = 0

-- Lines of these sorts may stand behind one another from one place up to another.
abbrev pub Walk : Place → List Sort → Place → Type 0
Walk at [] end = at ≡ end
Walk at (sort ∷ sorts) end = (next : Place) × (next_place at sort ≡ Some next) × Walk next sorts end
