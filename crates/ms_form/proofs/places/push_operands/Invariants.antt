use Rattle.std.proofs.Common.{◌≡◌, ◌++◌}
use Rattle.ms_form.specs.Places.{operand_users}
use Rattle.ms_form.proofs.places.push_operands.Given as goal

-- the users of the slots so far are appended
abbrev pub invariant-loop-slot : goal.invariant-loop-slot
invariant-loop-slot l = l.users.items ≡ l.initial.users.items ++ operand_users l.b l.slot
