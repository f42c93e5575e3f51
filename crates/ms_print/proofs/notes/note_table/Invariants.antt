use Rattle.std.proofs.Common.{◌≡◌, ◌<◌, ◌-◌, ℕ, drop, vec_len}
use Rattle.ms_print.specs.Text.{note_at}
use Rattle.ms_print.specs.Notes.{note_by}
use Rattle.ms_print.proofs.notes.note_table.Given as goal

abbrev pub invariant-loop-done : goal.invariant-loop-done
invariant-loop-done l = record {
  len : vec_len l.table ≡ l.fn.count;
  lines : (n : ℕ) → n < l.fn.count → note_by l.notes l.table.items n ≡ note_at (drop (l.total - l.done) l.notes) n;
}
