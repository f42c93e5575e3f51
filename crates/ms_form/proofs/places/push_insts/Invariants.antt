use Rattle.std.proofs.Common.{◌≡◌, ◌++◌}
use Rattle.ms_form.specs.Places.{inst_users_up_to}
use Rattle.ms_form.proofs.places.push_insts.Given as goal

-- the instructions so far are appended
abbrev pub invariant-loop-i : goal.invariant-loop-i
invariant-loop-i l = l.users.items ≡ l.initial.users.items ++ inst_users_up_to l.i
