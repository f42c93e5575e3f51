use Rattle.std.proofs.Common.{◌≡◌, replicate, []}
use Rattle.ms_flow.proofs.sources.no_edges.Given as goal

abbrev pub invariant-loop : goal.invariant-loop
invariant-loop l = l.lists.items ≡ replicate l.counter []
