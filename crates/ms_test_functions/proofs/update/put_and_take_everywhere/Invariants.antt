use Rattle.ms_test_functions.specs.Together.{IsTogether}
use Rattle.ms_test_functions.proofs.update.put_and_take_everywhere.Given as goal

-- the form is the function's
abbrev pub invariant-loop-b : goal.invariant-loop-b
invariant-loop-b g l = IsTogether l.f l.flow l.form
