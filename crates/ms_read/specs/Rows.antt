-- A text is cut into rows behind each line feed. The last row may lack one; an empty rest behind the last is no row.
use Rattle.std.specs.Prelude.{ℕ, Bool, if◌then◌else◌, nat_eq, List, [], ◌∷◌}
use Rattle.std.specs.List.{position_or_len}

-- whether a byte ends a row
abbrev pub is_line_feed : ℕ → Bool
is_line_feed b = nat_eq b 10

-- how many bytes stand before the first line feed
abbrev pub row_len : List ℕ → ℕ
row_len bytes = position_or_len is_line_feed bytes

-- a byte in front of the first row
abbrev pub in_first : ℕ → List (List ℕ) → List (List ℕ)
in_first b [] = (b ∷ []) ∷ []
in_first b (row ∷ rows) = (b ∷ row) ∷ rows

-- the rows of a text, without their line feeds
abbrev pub rows_of : List ℕ → List (List ℕ)
rows_of [] = []
rows_of (b ∷ bytes) = if nat_eq b 10 then [] ∷ rows_of bytes else in_first b (rows_of bytes)
