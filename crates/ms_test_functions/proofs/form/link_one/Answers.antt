use Rattle.std.proofs.Common.{[], ◌∷◌}
use Rattle.ms_test_functions.proofs.form.link_one.Goals as goal

pub returns-in-Some : goal.returns-in-Some
returns-in-Some g c = c.relink.ensures.places (0 ∷ 2 ∷ 1 ∷ []) 2 c.requires

pub returns : goal.returns
returns g c = c.clear.ensures.places (0 ∷ 2 ∷ 1 ∷ []) 2 c.requires
