-- Lists of optional values.
use Rattle.std.specs.Prelude.{ℕ, suc, List, [], ◌∷◌, Option, Some, None}

-- how many members are empty
abbrev pub free : {A : Type 0} → List (Option A) → ℕ
free [] = 0
free (None ∷ xs) = suc (free xs)
free (Some x ∷ xs) = free xs
