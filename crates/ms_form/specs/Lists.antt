-- Lists in which each member stands once.
use Rattle.std.specs.Prelude.{◌≡◌, ◌≢◌, List, [], ◌∷◌, ◌⊎◌}

-- it is a member of the list
abbrev pub IsIn : {A : Type 0} → A → List A → Type 0
IsIn x [] = ⊥
IsIn x (y ∷ rest) = (y ≡ x) ⊎ IsIn x rest

-- it is no member of the list
abbrev pub NotIn : {A : Type 0} → A → List A → Type 0
NotIn x [] = Unit {0}
NotIn x (y ∷ rest) = (y ≢ x) × NotIn x rest

-- each member stands once
abbrev pub EachOnce : {A : Type 0} → List A → Type 0
EachOnce [] = Unit {0}
EachOnce (x ∷ rest) = NotIn x rest × EachOnce rest
