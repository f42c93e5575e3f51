use Rattle.std.proofs.Common.{length, ap, ◌∙◌, arith}
use Rattle.ms_flow.proofs.Paths.{entry_done}
use Rattle.ms_flow.proofs.Listed.{reached_below}
use Rattle.ms_flow.proofs.Orders.{left_place}
use Rattle.ms_flow.proofs.order.order_again.Goals as goal

pub places-requires-clause-fits : goal.places-requires-clause-fits
places-requires-clause-fits c =
    let sized = (entry_done c.args.table.now c.requires.closed).sized in
    let seen = ap (λ w. length w.seen) c.requires.walked in
    let few = c.left.ensures.few in
    let len = c.requires.sized in
    omega arith

pub places-requires-clause-below : goal.places-requires-clause-below
places-requires-clause-below c = λ k lt.
    let g = c.args.table.now in
    let all = c.left.ensures.left ∙ ap (λ w. w.left) c.requires.walked in
    let below = reached_below g c.requires.closed _ (left_place g c.requires.closed c.left.result.now all k lt).0 in
    let len = c.requires.sized in
    omega arith

pub places-requires-clause-few : goal.places-requires-clause-few
places-requires-clause-few c =
    let sized = (entry_done c.args.table.now c.requires.closed).sized in
    let seen = ap (λ w. length w.seen) c.requires.walked in
    let few = c.left.ensures.few in
    let small = c.bounded.ensures.small in
    omega arith
