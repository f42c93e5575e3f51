use Rattle.std.proofs.Common.{length}
use Rattle.ms_form.specs.declared.access.Access.TheVariants.{Phi}
use Rattle.ms_form.specs.Form.{users_of, AreUsers, IsTable}
use Rattle.ms_build.proofs.Replacing.{IsReplacing}
use Rattle.ms_build.proofs.settling.replace_phi.Given as goal

-- some users are changed
abbrev pub invariant-users : goal.invariant-users
invariant-users l = IsReplacing l.b l.a l.fn.form l.form × AreUsers l.form × IsTable l.form

-- each turn changes one of them
abbrev pub decreases-users : goal.decreases-users
decreases-users l = length (users_of l.form (Phi l.b))
