use Rattle.ms_alias.specs.Building.{HaveFirst, IsLonger}
use Rattle.ms_alias.proofs.room.add_locals.Given as goal

abbrev pub invariant-loop-l : goal.invariant-loop-l
invariant-loop-l l = IsLonger l.fn.columns.items l.columns.items × HaveFirst l.func l.l l.columns.items
