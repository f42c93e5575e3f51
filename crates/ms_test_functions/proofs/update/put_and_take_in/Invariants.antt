use Rattle.ms_test_functions.specs.Together.{IsTogether}
use Rattle.ms_test_functions.proofs.update.put_and_take_in.Given as goal

-- the form is the function's
abbrev pub invariant-loop-place : goal.invariant-loop-place
invariant-loop-place g l = IsTogether l.f l.flow l.form
