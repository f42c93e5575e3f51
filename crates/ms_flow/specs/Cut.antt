-- What becomes of a flow graph when one of a block's two edges is cut.
use Rattle.std.specs.Prelude.{◌≡◌, ◌<◌, ◌≤◌, ℕ, List, [], ◌∷◌, if◌then◌else◌, ◌==◌, length, Some, slice_get, slice_index, slice_index_or, slice_set, sum_by}
use Rattle.ms_paths.specs.Flow.{Block as Run}
use Rattle.ms_flow.specs.declared.sources.Source.{Source}
use Rattle.ms_flow.specs.Table.{next_of, run_to}
use Rattle.ms_flow.specs.Flow.{AreRows, sources_of, walked}

-- of two slots the one that is not cut
abbrev pub kept_slot : ℕ → ℕ
kept_slot slot = if slot == 0 then 1 else 0

-- the block c has only the target of the other slot
abbrev pub cut_graph : List Run → ℕ → ℕ → List Run
cut_graph g c slot = slice_set g c (run_to (slice_index (next_of g c) (kept_slot slot) ∷ []))

-- An edge of the cut graph, as it was before: the one that leaves c at slot 0 left it at the slot that was not cut.
abbrev pub edge_before : ℕ → ℕ → Source → Source
edge_before c slot e = if e.from == c then record { from = c; slot = kept_slot slot } else e

-- what a table of places tells of the edge at a place among those to a block
abbrev pub place_before : List (List ℕ) → ℕ → ℕ → ℕ
place_before rows b k = slice_index (slice_index_or rows b []) k

-- each edge has its own place
pub record AreOwn (g : List Run) (rows : List (List ℕ)) : Type 0 where
  pub rows_are : AreRows g rows
  pub own : (b k : ℕ) → b < length g → k < length (sources_of g b) → place_before rows b k ≡ k

-- Each edge of the graph without the edge of c at this slot has the place at which it stood before: that is never less than its place now, and it rises.
pub record AreBefore (g : List Run) (c slot : ℕ) (rows : List (List ℕ)) : Type 0 where
  pub rows_are : AreRows (cut_graph g c slot) rows
  pub stood : (b k : ℕ) (e : Source) → b < length g → slice_get (sources_of (cut_graph g c slot) b) k ≡ Some e → slice_get (sources_of g b) (place_before rows b k) ≡ Some (edge_before c slot e)
  pub behind : (b k : ℕ) → b < length g → k < length (sources_of (cut_graph g c slot) b) → k ≤ place_before rows b k
  pub rises : (b j k : ℕ) → b < length g → j < k → k < length (sources_of (cut_graph g c slot) b) → place_before rows b j < place_before rows b k

-- how many edges leave reached blocks
abbrev pub edges_left : List Run → ℕ
edges_left g = sum_by (λ b. length (next_of g b)) (walked g).left
