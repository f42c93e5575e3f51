-- Names that are short enough, as a test.
use Rattle.std.specs.Prelude.{ℕ, Bool, List, length, nat_le}
use Rattle.std.specs.List.{list_all}

abbrev pub is_short : List ℕ → Bool
is_short name = nat_le (length name) 255

abbrev pub are_short : List (List ℕ) → Bool
are_short names = list_all is_short names
