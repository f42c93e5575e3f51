use Rattle.std.proofs.Common.{◌≡◌, ◌++◌}
use Rattle.ms_output.specs.Forms.{times}
use Rattle.ms_output.proofs.forms.push_times.Given as goal

abbrev pub invariant-loop : goal.invariant-loop
invariant-loop l = l.all.items ≡ l.fn.all.items ++ times l.counter l.text
