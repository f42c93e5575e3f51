-- Lists of names, in which each stands once.
use Rattle.std.specs.Prelude.{◌≡◌, ℕ, List, Some, slice_get}

-- no name of the list is this one
abbrev pub NotNamed : List (List ℕ) → List ℕ → Type 0
NotNamed names name = (n : ℕ) → slice_get names n ≡ Some name → ⊥

-- each name stands once
abbrev pub AreDistinct : List (List ℕ) → Type 0
AreDistinct names = (i j : ℕ) (name : List ℕ) → slice_get names i ≡ Some name → slice_get names j ≡ Some name → i ≡ j

-- the names of a module, each in the order of its numbers
pub record NamesState : Type 0 where
  pub funcs : List (List ℕ)
  pub globals : List (List ℕ)
