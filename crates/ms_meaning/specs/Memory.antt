-- Objects, and what is read in them and written.
use Rattle.std.specs.Prelude.{◌&&◌, ◌≤ℤ◌, ◌<ℤ◌, ◌∷◌, ◌==◌, ℕ, zero, suc, ℤ, pos, ◌+ℤ◌, nat_abs, int_lt, int_le, Bool, true, not, List, [], length, take, drop, Option, Some, None, slice_set, slice_index_or, if◌then◌else◌}
use Rattle.ms_meaning.specs.Values.{Byte}

-- a byte of an object gets a new value
pub record Written : Type 0 where
  pub object : ℕ
  pub offset : ℤ
  pub byte : Byte

-- byte k is one of so many from an offset on
abbrev pub HoldsByte : ℤ → ℕ → ℤ → Type 0
HoldsByte from len k = (from ≤ℤ k) × (k <ℤ (from +ℤ pos len))

abbrev pub object_at : List (List Byte) → ℕ → List Byte
object_at objects o = slice_index_or objects o []

-- the object has so many bytes from this offset on; none are there everywhere
abbrev pub has_bytes : List Byte → ℤ → ℕ → Bool
has_bytes bytes at zero = true
has_bytes bytes at (suc k) = int_le (pos 0) at && int_le (at +ℤ pos (suc k)) (pos (length bytes))

-- these bytes
abbrev pub bytes_at : List Byte → ℤ → ℕ → List Byte
bytes_at bytes at len = take len (drop (nat_abs at) bytes)

abbrev pub read : List (List Byte) → ℕ → ℤ → ℕ → Option (List Byte)
read objects o at len = if has_bytes (object_at objects o) at len then Some (bytes_at (object_at objects o) at len) else None

-- bytes are written from an offset on
abbrev pub spread : ℕ → ℤ → List Byte → List Written
spread o at [] = []
spread o at (b ∷ bs) = record { object = o; offset = at; byte = b } ∷ spread o (at +ℤ pos 1) bs

abbrev pub is_within : List (List Byte) → Written → Bool
is_within objects w = has_bytes (object_at objects w.object) w.offset 1

abbrev pub with_byte : List (List Byte) → Written → List (List Byte)
with_byte objects w = slice_set objects w.object (slice_set (object_at objects w.object) (nat_abs w.offset) w.byte)

-- the objects after bytes were written, one after another
abbrev pub with_written : List (List Byte) → List Written → List (List Byte)
with_written objects [] = objects
with_written objects (w ∷ ws) = with_written (with_byte objects w) ws

-- two ranges of so many bytes share one, and are not the same
abbrev pub overlap_in_part : ℕ → ℤ → ℕ → ℤ → ℕ → Bool
overlap_in_part o at p from len = (o == p) && not (int_le at from && int_le from at) && int_lt at (from +ℤ pos len) && int_lt from (at +ℤ pos len)
