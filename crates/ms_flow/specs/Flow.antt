-- The flow graph of a function as contracts see it.
use Rattle.std.specs.Prelude.{◌≡◌, ◌<◌, ◌+◌, ℕ, Bool, true, if◌then◌else◌, ◌==◌, ◌↔◌, List, [], ◌∷◌, ◌++◌, length, Option, Some, None, option_map, slice_index, slice_index_or, IsTrue, take, unwrap_or, false, ◌⊎◌, ◌*◌}
use Rattle.ms_paths.specs.Flow.{Block as Run, IsReached, IsWalk, IsOnEveryPath, IsReducible, IsClosed}
use Rattle.ms_flow.specs.declared.sources.Source.{Source}
use Rattle.ms_flow.specs.Table.{next_of}
use Rattle.ms_flow.specs.Walk.{WalkState, is_seen, visit, fresh}

-- The blocks have no instructions here: only the edges count. `before` has for each block the places that the edges to it had
-- before the last cut.
pub record FlowState : Type 0 where
  pub graph : List Run
  pub before : List (List ℕ)

-- the walk from the entry
abbrev pub walked : List Run → WalkState
walked g = visit g (length g) 0 (fresh (length g))

abbrev pub has_reached : List Run → ℕ → Bool
has_reached g b = is_seen (walked g) b

-- the first place of a number in a list
abbrev pub place_in : List ℕ → ℕ → Option ℕ
place_in [] b = None
place_in (x ∷ xs) b = if x == b then Some 0 else option_map (λ k. k + 1) (place_in xs b)

-- the place of a block in the reverse postorder of that walk
abbrev pub order_of : List Run → ℕ → Option ℕ
order_of g b = place_in (walked g).left b

-- the same as a number, 0 where the block is not reached
abbrev pub place_of : List Run → ℕ → ℕ
place_of g b = unwrap_or (order_of g b) 0

-- an edge that goes up in that order, or leads to a block that every path to its beginning passes
abbrev pub IsFine : List Run → ℕ → ℕ → Type 0
IsFine g a b = (place_of g a < place_of g b) ⊎ IsOnEveryPath g b a

-- a walk of at least one edge leads from a reached block back to it
abbrev pub IsOnCycle : List Run → ℕ → Type 0
IsOnCycle g b = IsReached g b × ((c : ℕ) × (w : List ℕ) × IsWalk g b b (c ∷ w))

-- the edges from a to b among these targets, the first of which has the slot k
abbrev pub slots_to : ℕ → ℕ → ℕ → List ℕ → List Source
slots_to a b k [] = []
slots_to a b k (t ∷ ts) = if t == b then record { from = a; slot = k } ∷ slots_to a b (k + 1) ts else slots_to a b (k + 1) ts

-- the edges to b from these blocks, the first of which is a; only the blocks of R count
abbrev pub edges_to : (ℕ → Bool) → ℕ → ℕ → List Run → List Source
edges_to R b a [] = []
edges_to R b a (x ∷ g) = (if R a then slots_to a b 0 x.next else []) ++ edges_to R b (a + 1) g

-- the edges to b from reached blocks, in text order of the block that they leave, then by slot
abbrev pub sources_of : List Run → ℕ → List Source
sources_of g b = edges_to (has_reached g) b 0 g

-- one edge stands before another: it leaves an earlier block, or the same one at an earlier slot
abbrev pub IsBefore : Source → Source → Type 0
IsBefore d e = (d.from < e.from) ⊎ ((d.from ≡ e.from) × (d.slot < e.slot))

-- where the edge at a slot of a block stands among the edges to the block that it leads to
abbrev pub in_slot_of : (ℕ → Bool) → List Run → ℕ → ℕ → ℕ
in_slot_of R g a slot =
    let b = slice_index (next_of g a) slot in
    length (edges_to R b 0 (take a g)) + length (slots_to a b 0 (take slot (next_of g a)))

-- so far these edges are listed: those from the first blocks, a of them
pub record AreListed (R : ℕ → Bool) (g : List Run) (a : ℕ) (lists : List (List Source)) (in_slots : List ℕ) : Type 0 where
  pub blocks : length lists ≡ length g
  pub slots : length in_slots ≡ 2 * length g
  pub edges : (b : ℕ) → b < length g → slice_index_or lists b [] ≡ edges_to R b 0 (take a g)
  pub places : (x slot : ℕ) → x < a → R x ≡ true → slot < length (next_of g x) → slice_index in_slots (2 * x + slot) ≡ in_slot_of R g x slot

-- the edges at the first slots of a are added to the lists, so many of them
pub record AreAdded (g : List Run) (a count : ℕ) (old new : List (List Source)) (old_slots new_slots : List ℕ) : Type 0 where
  pub blocks : length new ≡ length old
  pub slots : length new_slots ≡ length old_slots
  pub edges : (b : ℕ) → b < length old → slice_index_or new b [] ≡ slice_index_or old b [] ++ slots_to a b 0 (take count (next_of g a))
  pub places : (slot : ℕ) → slot < count → slice_index new_slots (2 * a + slot) ≡ length (slice_index_or old (slice_index (next_of g a) slot) []) + length (slots_to a (slice_index (next_of g a) slot) 0 (take slot (next_of g a)))
  pub others : (x : ℕ) → x < 2 * a → slice_index new_slots x ≡ slice_index old_slots x

-- for each block its place in the order
pub record AreOrdered (g : List Run) (order : List (Option ℕ)) : Type 0 where
  pub blocks : length order ≡ length g
  pub places : (b : ℕ) → b < length g → slice_index_or order b None ≡ order_of g b

-- for each block whether it is on a cycle
pub record AreCycles (g : List Run) (cyclic : List Bool) : Type 0 where
  pub blocks : length cyclic ≡ length g
  pub cycles : (b : ℕ) → b < length g → IsTrue (slice_index_or cyclic b false) ↔ IsOnCycle g b

-- for each block whether every path to it passes h
pub record AreBehind (g : List Run) (h : ℕ) (passes : List Bool) : Type 0 where
  pub blocks : length passes ≡ length g
  pub behind : (b : ℕ) → b < length g → IsTrue (slice_index_or passes b false) ↔ IsOnEveryPath g h b

-- a place for each edge to each block
pub record AreRows (g : List Run) (rows : List (List ℕ)) : Type 0 where
  pub blocks : length rows ≡ length g
  pub counts : (b : ℕ) → b < length g → length (slice_index_or rows b []) ≡ length (sources_of g b)

-- what the tables of a flow graph tell, and that there is room to make them again
pub record IsFlow (g : List Run) (walk : WalkState) (lists : List (List Source)) (in_slots : List ℕ) (rows : List (List ℕ)) (order : List (Option ℕ)) (lows : List ℕ) (cyclic : List Bool) (reducible : Bool) : Type 0 where
  pub closed : IsClosed g
  pub walk_blocks : length walk.seen ≡ length g
  pub rows_are : AreRows g rows
  pub low_blocks : length lows ≡ length g
  pub listed : AreListed (has_reached g) g (length g) lists in_slots
  pub ordered : AreOrdered g order
  pub on_cycles : AreCycles g cyclic
  pub told : IsTrue reducible ↔ IsReducible g
