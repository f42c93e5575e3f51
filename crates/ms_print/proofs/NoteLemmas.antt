-- Notes found through a table.
use Rattle.std.proofs.Common.{◌≡◌, ◌≢◌, ◌<◌, ◌≤◌, ◌+◌, ℕ, suc, zero, List, [], ◌∷◌, drop, length, set, get_or, Option, Some, None, true, false, eqb, refl, arith, ⊎_elim}
use Rattle.std.proofs.lemmas.Bool.{cases_Bool}
use Rattle.std.proofs.lemmas.Bool.Decides.{nat_tests}
use Rattle.std.proofs.lemmas.List.{get_or-set_same, get_or-set_other, drop_more}
use Rattle.std.specs.List.{slice_get}
use Rattle.ms_print.specs.declared.notes.Note.{Note}
use Rattle.ms_print.specs.Text.{note_at}
use Rattle.ms_print.specs.Notes.{note_by, note_before, no_note}

note_there : (notes : List Note) (place : ℕ) → place < length notes → slice_get notes place ≡ Some (get_or notes place no_note)
note_there [] place h = absurd (omega arith)
note_there (x ∷ xs) zero h = refl
note_there (x ∷ xs) (suc place) h = note_there xs place (omega arith)

-- the place of a note is written at its number
pub note_placed : (notes : List Note) (table : List (Option ℕ)) (place n at : ℕ) → place < length notes → at ≡ (get_or notes place no_note).at → at < length table
    → note_by notes (set table at (Some place)) n ≡ note_before (get_or notes place no_note) n (note_by notes table n)
note_placed notes table place n at here is within =
    ⊎_elim
    (λ (t : eqb (get_or notes place no_note).at n ≡ true).
    let same : n ≡ at = grind (arith, nat_tests) in
    rw (t, same, get_or-set_same table at (Some place) None within, note_there notes place here) refl)
    (λ (f : eqb (get_or notes place no_note).at n ≡ false).
    let other : n ≢ at = grind (arith, nat_tests) in
    rw (f, get_or-set_other table at n (Some place) None other) refl)
    (cases_Bool (eqb (get_or notes place no_note).at n))

-- a note whose number is past the table
pub note_past : (notes : List Note) (table : List (Option ℕ)) (place n at : ℕ) → at ≡ (get_or notes place no_note).at → length table ≤ at → n < length table
    → note_by notes table n ≡ note_before (get_or notes place no_note) n (note_by notes table n)
note_past notes table place n at is past within =
    ⊎_elim
    (λ (t : eqb (get_or notes place no_note).at n ≡ true). let same : n ≡ at = grind (arith, nat_tests) in absurd (omega arith))
    (λ (f : eqb (get_or notes place no_note).at n ≡ false). rw f refl)
    (cases_Bool (eqb (get_or notes place no_note).at n))

-- one note more before the rest
pub note_more : (notes : List Note) (place n : ℕ) (line : List ℕ) → place < length notes → line ≡ note_at (drop (place + 1) notes) n
    → note_before (get_or notes place no_note) n line ≡ note_at (drop place notes) n
note_more notes place n line here is = rw (drop_more notes place no_note here, is) refl
