use Rattle.std.proofs.Common.{◌≡◌, length}
use Rattle.ms_form.specs.Form.{KeepsPlaces}
use Rattle.ms_build.specs.Entering.{AreEntered}
use Rattle.ms_build.proofs.entering.enter_blocks.Given as goal

-- the first blocks in the order are entered
abbrev pub invariant-loop-k : goal.invariant-loop-k
invariant-loop-k l =
    AreEntered l.flow.graph l.k l.form × (l.form.lasts ≡ l.fn.form.lasts) × (length l.form.defs ≡ length l.fn.form.defs)
    × (length l.form.phis ≡ length l.fn.form.phis) × KeepsPlaces l.fn.form l.form
