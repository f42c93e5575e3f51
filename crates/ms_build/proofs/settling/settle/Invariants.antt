use Rattle.ms_build.proofs.Turns.{IsSettling, work}
use Rattle.ms_build.proofs.settling.settle.Given as goal

-- the form is consistent, and blocks whose phis are trivial wait
abbrev pub invariant-settling : goal.invariant-settling
invariant-settling l = IsSettling l.flow l.fn.form l.form

-- each turn takes a phi out, or a block waits no more
abbrev pub decreases-settling : goal.decreases-settling
decreases-settling l = work l.form
