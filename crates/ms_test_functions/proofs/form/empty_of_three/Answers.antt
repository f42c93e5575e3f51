use Rattle.std.proofs.Common.{ℕ, List, [], ◌∷◌, subst, arith}
use Rattle.ms_form.specs.Form.{HasPlaces}
use Rattle.ms_test_functions.proofs.Graphs.{three_counts}
use Rattle.ms_test_functions.proofs.form.empty_of_three.Goals as goal

pub returns : goal.returns
returns g c = subst (λ (xs : List ℕ). HasPlaces xs 2 c.empty_of.result) (three_counts c.args.flow.now 0 2 1 (omega arith) (omega arith) (omega arith) (omega arith)) c.empty_of.ensures
