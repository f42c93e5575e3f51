use Rattle.std.proofs.Common.{arith}
use Rattle.ms_flow.proofs.Steps.{unseen_le}
use Rattle.ms_flow.proofs.walker.Walker.new.Goals as goal

pub invariant_of-result : goal.invariant_of-result
invariant_of-result c =
    let fewer = unseen_le c.in_ok-from_elem.field-0.items in
    let marks = c.in_ok-from_elem.field-0.ok.0 in
    let marked = c.in_ok-from_elem.ensures.len in
    let frames = c.in_ok-with_capacity.ensures.len in
    let frames_room = c.in_ok-with_capacity.ensures.capacity in
    let left = c.in_ok-with_capacity-2.ensures.len in
    let left_room = c.in_ok-with_capacity-2.ensures.capacity in
    (omega arith, omega arith, omega arith, omega arith, omega arith)
