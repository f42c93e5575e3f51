-- What stays of a list of edges to a block when one of a block's edges is cut: no edge comes, so a list is made again in place.
use Rattle.std.specs.Prelude.{◌≡◌, ◌<◌, ◌+◌, ◌*◌, ℕ, Bool, List, [], ◌∷◌, if◌then◌else◌, ◌==◌, ◌&&◌, not, length, Some, slice_get, slice_index, slice_index_or}
use Rattle.ms_flow.specs.declared.sources.Source.{Source}

-- an edge from a block that is still reached, other than the one from c at this slot
abbrev pub stays : (ℕ → Bool) → ℕ → ℕ → Source → Bool
stays R c slot e = R e.from && not ((e.from == c) && (e.slot == slot))

-- an edge that stays, as it is behind the cut
abbrev pub edge_behind : ℕ → Source → Source
edge_behind c e = if e.from == c then record { from = c; slot = 0 } else e

abbrev pub kept : (ℕ → Bool) → ℕ → ℕ → List Source → List Source
kept R c slot [] = []
kept R c slot (e ∷ es) = if stays R c slot e then edge_behind c e ∷ kept R c slot es else kept R c slot es

-- the places of those edges, where the first of these edges has the place k
abbrev pub kept_places : (ℕ → Bool) → ℕ → ℕ → ℕ → List Source → List ℕ
kept_places R c slot k [] = []
kept_places R c slot k (e ∷ es) = if stays R c slot e then k ∷ kept_places R c slot (k + 1) es else kept_places R c slot (k + 1) es

-- what is kept of each list
pub record AreKept (R : ℕ → Bool) (c slot : ℕ) (old new : List (List Source)) (rows : List (List ℕ)) : Type 0 where
  pub blocks : length new ≡ length old
  pub rows_blocks : length rows ≡ length old
  pub edges : (b : ℕ) → b < length old → slice_index_or new b [] ≡ kept R c slot (slice_index_or old b [])
  pub places : (b : ℕ) → b < length old → slice_index_or rows b [] ≡ kept_places R c slot 0 (slice_index_or old b [])

-- as many places as edges
pub record HasRows (lists : List (List Source)) (rows : List (List ℕ)) : Type 0 where
  pub blocks : length rows ≡ length lists
  pub counts : (b : ℕ) → b < length lists → length (slice_index_or rows b []) ≡ length (slice_index_or lists b [])

-- each edge stands once, and leaves a block at one of two slots
pub record AreApart (n : ℕ) (lists : List (List Source)) : Type 0 where
  pub from : (b k : ℕ) (e : Source) → b < length lists → slice_get (slice_index_or lists b []) k ≡ Some e → e.from < n
  pub slot : (b k : ℕ) (e : Source) → b < length lists → slice_get (slice_index_or lists b []) k ≡ Some e → e.slot < 2
  pub block : (a b j k : ℕ) (e : Source) → a < length lists → b < length lists → slice_get (slice_index_or lists a []) j ≡ Some e → slice_get (slice_index_or lists b []) k ≡ Some e → a ≡ b
  pub place : (b j k : ℕ) (e : Source) → b < length lists → slice_get (slice_index_or lists b []) j ≡ Some e → slice_get (slice_index_or lists b []) k ≡ Some e → j ≡ k

-- the place of an edge stands at twice the number of its block and its slot
abbrev pub key_of : Source → ℕ
key_of e = 2 * e.from + e.slot

-- the first edges of a list have their places
abbrev pub AreNumbered : List Source → ℕ → List ℕ → Type 0
AreNumbered list n in_slots = (k : ℕ) (e : Source) → k < n → slice_get list k ≡ Some e → slice_index in_slots (key_of e) ≡ k
