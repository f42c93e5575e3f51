use Rattle.std.proofs.Common.{[], ◌∷◌}
use Rattle.ms_form.specs.Form.{HasPlaces}
use Rattle.ms_test_functions.proofs.form.link_all.Given as goal

-- the form keeps its places
abbrev pub invariant-loop-k : goal.invariant-loop-k
invariant-loop-k g l = HasPlaces (0 ∷ 2 ∷ 1 ∷ []) 2 l.form
