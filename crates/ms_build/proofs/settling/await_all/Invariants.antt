use Rattle.std.proofs.Common.{◌≡◌, ◌<◌, ℕ}
use Rattle.ms_form.specs.Form.{KeepsPlaces}
use Rattle.ms_build.specs.Changes.{Waits}
use Rattle.ms_build.proofs.settling.await_all.Given as goal

-- the first blocks wait
abbrev pub invariant-loop-b : goal.invariant-loop-b
invariant-loop-b l = (l.form ≡ record l.fn.form { waiting = l.form.waiting }) × ((c : ℕ) → c < l.b → Waits l.form c) × KeepsPlaces l.fn.form l.form
