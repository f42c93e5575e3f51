use Rattle.std.proofs.Common.{◌≡◌, ◌<◌, ℕ, length}
use Rattle.std.specs.Prelude.{None, slice_index_or}
use Rattle.ms_form.specs.Form.{KeepsPlaces}
use Rattle.ms_build.specs.Filled.{last_of, IsBelow}
use Rattle.ms_build.proofs.lasts.set_lasts.Given as goal

-- the first blocks have their last Defs
abbrev pub invariant-loop-b : goal.invariant-loop-b
invariant-loop-b l =
    (l.form ≡ record l.fn.form { lasts = l.form.lasts }) × (length l.form.lasts ≡ length l.fn.form.phis)
    × ((c : ℕ) → c < l.b → slice_index_or l.form.lasts c None ≡ last_of l.func.blocks c)
    × ((c : ℕ) → c < l.b → IsBelow l.func.made (slice_index_or l.form.lasts c None)) × KeepsPlaces l.fn.form l.form
