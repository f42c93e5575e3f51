use Rattle.std.proofs.Common.{◌≡◌, ◌∙◌, arith}
use Rattle.std.specs.Prelude.{None}
use Rattle.std.proofs.lemmas.List.{get_or_default}
use Rattle.ms_flow.specs.Flow.{order_of}
use Rattle.ms_flow.proofs.Orders.{order_cases}
use Rattle.ms_flow.proofs.flow.Flow.order.Goals as goal

pub returns-clause-reached : goal.returns-clause-reached
returns-clause-reached c =
    let lt = rw (← c.self.view_is) at c.requires in
    let g = c.self.inside.table in
    let ordered = c.self.invariant.ordered in
    let blocks = ordered.blocks in
    let items = c.self.inside.order.items in
    let place : c.index.result.now ≡ order_of g c.args.b.0 = c.index.ensures ∙ get_or_default items c.args.b.0 c.index.result.now None (omega arith) ∙ ordered.places c.args.b.0 lt in
    rw (← c.self.view_is) (order_cases g c.self.invariant.closed c.args.b.0 c.index.result.now place)
