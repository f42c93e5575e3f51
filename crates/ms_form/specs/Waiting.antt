-- Blocks that wait, each once.
use Rattle.std.specs.Prelude.{◌≡◌, ◌==◌, ℕ, Bool, false, List, [], ◌∷◌, ◌++◌, if◌then◌else◌, slice_index_or, sum_by}

-- how many blocks there are, and which of them wait
pub record WaitingState : Type 0 where
  pub blocks : ℕ
  pub list : List ℕ

abbrev pub one_if : Bool → ℕ
one_if b = if b then 1 else 0

abbrev pub one_unless : Bool → ℕ
one_unless b = if b then 0 else 1

abbrev pub same_as : ℕ → ℕ → ℕ
same_as b x = one_if (x == b)

-- how often a block stands in a list
abbrev pub times : ℕ → List ℕ → ℕ
times b list = sum_by (same_as b) list

-- one more block waits, unless it already does
abbrev pub with_waiting : ℕ → List ℕ → List ℕ
with_waiting b list = if times b list == 0 then (list ++ b ∷ []) else list

-- the marked blocks stand in the list, each once, and no other does
abbrev pub AreMarked : List Bool → List ℕ → Type 0
AreMarked marks list = (b : ℕ) → times b list ≡ one_if (slice_index_or marks b false)

-- how many blocks are not marked
abbrev pub unmarked : List Bool → ℕ
unmarked marks = sum_by one_unless marks
