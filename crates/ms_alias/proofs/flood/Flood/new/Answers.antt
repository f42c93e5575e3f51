use Rattle.std.proofs.Common.{arith}
use Rattle.ms_flow.proofs.Steps.{unseen_le}
use Rattle.ms_alias.proofs.flood.Flood.new.Goals as goal

pub invariant_of-result : goal.invariant_of-result
invariant_of-result c =
    let fewer = unseen_le c.in_ok-from_elem.field-0.items in
    let marks = c.in_ok-from_elem.field-0.ok.0 in
    let marked = c.in_ok-from_elem.ensures.len in
    let todo = c.in_ok-with_capacity.ensures.len in
    let room = c.in_ok-with_capacity.ensures.capacity in
    (omega arith, omega arith)
