-- The walk of a graph, depth first and slot 0 first.
use Rattle.std.specs.Prelude.{ℕ, zero, suc, Bool, true, false, if◌then◌else◌, List, [], ◌∷◌, length, replicate, slice_index_or, slice_set}
use Rattle.ms_paths.specs.Flow.{Block as Run}
use Rattle.ms_flow.specs.Table.{next_of}

-- how far a walk is: which blocks were seen, and those that were left, the last one first
pub record WalkState : Type 0 where
  pub seen : List Bool
  pub left : List ℕ

abbrev pub is_seen : WalkState → ℕ → Bool
is_seen s b = slice_index_or s.seen b false

abbrev pub enter : ℕ → WalkState → WalkState
enter b s = record { seen = slice_set s.seen b true; left = s.left }

abbrev pub leave : ℕ → WalkState → WalkState
leave b s = record { seen = s.seen; left = b ∷ s.left }

-- a step for each of these blocks
abbrev pub each : (ℕ → WalkState → WalkState) → List ℕ → WalkState → WalkState
each step [] s = s
each step (b ∷ bs) s = each step bs (step b s)

-- the walk into a block that was not seen, and from there into each next one; it goes n blocks deep at most
abbrev pub visit : List Run → ℕ → ℕ → WalkState → WalkState
visit g zero b s = s
visit g (suc n) b s = if is_seen s b then s else leave b (each (visit g n) (next_of g b) (enter b s))

-- nothing was seen yet of so many blocks
abbrev pub fresh : ℕ → WalkState
fresh n = record { seen = replicate n false; left = [] }

-- how many blocks were not seen
abbrev pub unseen : List Bool → ℕ
unseen [] = 0
unseen (true ∷ bs) = unseen bs
unseen (false ∷ bs) = suc (unseen bs)

-- the walk from the entry without a block
abbrev pub without : List Run → ℕ → WalkState
without g h = visit g (length g) 0 (enter h (fresh (length g)))

-- the walk from the targets of a block
abbrev pub beyond : List Run → ℕ → WalkState
beyond g b = each (visit g (length g)) (next_of g b) (fresh (length g))
