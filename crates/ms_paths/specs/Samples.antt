-- Small graphs.
use Rattle.std.specs.Prelude.{ℕ, Bool, true, List, [], ◌∷◌, ◌||◌}
use Rattle.ms_paths.specs.Flow.{Block, just}

abbrev pub block : List ℕ → List ℕ → Block
block is bs = record { events = is; next = bs }

abbrev pub any_event : ℕ → Bool
any_event i = true

-- a store on one arm
abbrev pub diamond : List Block
diamond = block [] (1 ∷ 2 ∷ []) ∷ block (7 ∷ []) (3 ∷ []) ∷ block [] (3 ∷ []) ∷ block [] [] ∷ []

-- a block with a store that may come again
abbrev pub self_loop : List Block
self_loop = block [] (1 ∷ []) ∷ block (7 ∷ []) (1 ∷ 2 ∷ []) ∷ block [] [] ∷ []

-- a loop with a store, in a loop
abbrev pub nested : List Block
nested = block [] (1 ∷ []) ∷ block [] (2 ∷ []) ∷ block [] (3 ∷ 4 ∷ []) ∷ block (7 ∷ []) (2 ∷ []) ∷ block [] (1 ∷ 5 ∷ []) ∷ block [] [] ∷ []

-- a loop that is entered at two blocks, after a store
abbrev pub two_entries : List Block
two_entries = block (7 ∷ []) (1 ∷ 2 ∷ []) ∷ block [] (2 ∷ []) ∷ block [] (1 ∷ []) ∷ []

abbrev pub one_or_two : ℕ → Bool
one_or_two b = just 1 b || just 2 b
