use Rattle.std.proofs.Common.{◌≡◌, true, false, refl, sym, ap, ◌∙◌}
use Rattle.std.specs.Prelude.{is_some}
use Rattle.std.proofs.lemmas.Bool.{both_ways}
use Rattle.ms_flow.specs.Flow.{order_of}
use Rattle.ms_flow.proofs.Orders.{order_reached}
use Rattle.ms_flow.proofs.search.is_on_cycle.Goals as goal

pub returns-then-is_none-clause-cycle : goal.returns-then-is_none-clause-cycle
returns-then-is_none-clause-cycle c =
    let is : is_some (order_of c.args.table.now c.args.b) ≡ false = sym (ap is_some (c.requires.ordered.places c.args.b c.requires.b)) ∙ c.if-is_none.ensures in
    (λ t. absurd (both_ways false refl t), λ cycle. absurd (both_ways _ is ((order_reached c.args.table.now c.requires.closed c.args.b).1 cycle.0)))

pub returns-clause-cycle : goal.returns-clause-cycle
returns-clause-cycle c =
    let is : is_some (order_of c.args.table.now c.args.b) ≡ true = sym (ap is_some (c.requires.ordered.places c.args.b c.requires.b)) ∙ c.if-is_none.ensures in
    (λ t. ((order_reached c.args.table.now c.requires.closed c.args.b).0 is, c.comes_back.ensures.cycle.0 t), λ cycle. c.comes_back.ensures.cycle.1 cycle.1)
