-- Notes that are found through a table.
use Rattle.std.specs.Prelude.{ℕ, ◌==◌, if◌then◌else◌, List, [], Option, Some, None, slice_get, slice_index_or}
use Rattle.ms_print.specs.declared.notes.Note.{Note}
use Rattle.ms_print.specs.Text.{ended}

abbrev pub note_in : Option Note → List ℕ
note_in None = []
note_in (Some x) = ended x.line

abbrev pub note_in_place : List Note → Option ℕ → List ℕ
note_in_place notes None = []
note_in_place notes (Some place) = note_in (slice_get notes place)

-- the line for a number, with the places of notes by their numbers in a table
abbrev pub note_by : List Note → List (Option ℕ) → ℕ → List ℕ
note_by notes table n = note_in_place notes (slice_index_or table n None)

abbrev pub no_note : Note
no_note = record { at = 0; line = [] }

-- the line for a number, with a note before others that have this line for it
abbrev pub note_before : Note → ℕ → List ℕ → List ℕ
note_before x n rest = if x.at == n then ended x.line else rest
