use Rattle.std.proofs.Common.{◌≡◌, get_or, take, []}
use Rattle.std.specs.Prelude.{vec_capacity}
use Rattle.std.specs.List.{slice_get}
use Rattle.ms_ir.specs.Changes.{node_without}
use Rattle.ms_ir.proofs.ChangeLemmas.{IsPassed}
use Rattle.ms_ir.proofs.changes.lose_entries.Given as goal

-- the walk stands at the next number of the block, and those that were passed are changed
abbrev pub invariant-walk : goal.invariant-walk
invariant-walk l = record {
  at_place : l.at ≡ slice_get (get_or l.order.lists l.block []) l.counter;
  passed : IsPassed (node_without l.from.0) l.fn.nodes.items l.nodes.items (take l.counter (get_or l.order.lists l.block []));
  capacity : vec_capacity l.nodes ≡ vec_capacity l.fn.nodes;
}
