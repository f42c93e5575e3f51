use Rattle.std.proofs.Common.{◌≡◌, replicate, []}
use Rattle.ms_validity.proofs.sources.no_sources.Given as goal

abbrev pub invariant-loop : goal.invariant-loop
invariant-loop l = l.lists.items ≡ replicate l.counter []
