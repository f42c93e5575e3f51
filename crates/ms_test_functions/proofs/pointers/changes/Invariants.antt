use Rattle.std.proofs.Common.{◌+◌, ◌≤◌}
use Rattle.ms_alias.specs.Tables.{IsAliasOf}
use Rattle.ms_test_functions.proofs.pointers.changes.Given as goal

-- the tables are the function's, and room for the other changes is left
abbrev pub invariant-loop-k : goal.invariant-loop-k
invariant-loop-k g l = record { tables : IsAliasOf l.f l.alias; room : 16 ≤ l.k-counter + l.f.spare }
