use Rattle.std.proofs.Common.{◌≡◌, ◌<◌, ◌≤◌, ℕ, []}
use Rattle.ms_print.specs.Text.{note_at}
use Rattle.ms_session.specs.Shown.{shown_phi}
use Rattle.ms_session.proofs.notes.phi_notes.Given as goal

abbrev pub invariant-loop-b : goal.invariant-loop-b
invariant-loop-b l = record {
  done : (n : ℕ) → n < l.b → note_at l.notes n ≡ shown_phi l.labels l.numbers.all l.flow.graph l.form n;
  rest : (n : ℕ) → l.b ≤ n → note_at l.notes n ≡ [];
}
