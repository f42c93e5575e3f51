use Rattle.std.proofs.Common.{◌≡◌, sym, ap, ◌∙◌, arith}
use Rattle.std.specs.Prelude.{None, is_some}
use Rattle.std.proofs.lemmas.List.{get_or_default}
use Rattle.ms_flow.specs.Flow.{order_of}
use Rattle.ms_flow.proofs.Orders.{order_reached}
use Rattle.ms_flow.proofs.flow.Flow.reached.Goals as goal

pub returns : goal.returns
returns c =
    let lt = rw (← c.self.view_is) at c.requires in
    let g = c.self.inside.table in
    let ordered = c.self.invariant.ordered in
    let blocks = ordered.blocks in
    let items = c.self.inside.order.items in
    let place : c.index.result.now ≡ order_of g c.args.b.0 = c.index.ensures ∙ get_or_default items c.args.b.0 c.index.result.now None (omega arith) ∙ ordered.places c.args.b.0 lt in
    let same : c.is_some.result ≡ is_some (order_of g c.args.b.0) = c.is_some.ensures ∙ ap is_some place in
    let told = order_reached g c.self.invariant.closed c.args.b.0 in
    rw (← c.self.view_is) (λ t. told.0 (sym same ∙ t), λ k. same ∙ told.1 k)
