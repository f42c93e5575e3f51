use Rattle.std.proofs.Common.{◌≡◌, ◌++◌, map, take, drop}
use Rattle.ms_ir.specs.Changes.{node_with}
use Rattle.ms_ir.proofs.changes.replace_in_nodes.Given as goal

-- those that were passed are changed
abbrev pub invariant-loop-node : goal.invariant-loop-node
invariant-loop-node l = l.node-items ≡ map (node_with l.l l.by) (take l.node-index l.fn.nodes.items) ++ drop l.node-index l.fn.nodes.items
