use Rattle.std.proofs.Common.{arith}
use Rattle.ms_flow.proofs.Tables.{edges_within, edges_few, length-edges}
use Rattle.ms_flow.proofs.table.Table.bounded.Goals as goal

pub returns-clause-within : goal.returns-clause-within
returns-clause-within c =
    rw (← c.self.view_is) (λ a b h. let below = edges_within _ c.self.inside.targets.items c.self.invariant.0 a b h in omega (arith, length-edges c.self.inside.targets.items, c.self.inside.targets.ok.0))

pub returns-clause-few : goal.returns-clause-few
returns-clause-few c = rw (← c.self.view_is) (edges_few c.self.inside.targets.items)

pub returns-clause-small : goal.returns-clause-small
returns-clause-small c =
    rw (← c.self.view_is) (let few = c.self.invariant.1 in omega (arith, length-edges c.self.inside.targets.items, c.self.inside.targets.ok.0))
