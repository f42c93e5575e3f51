use Rattle.ms_ir.proofs.OrderLemmas.{stand_once, lists_below}
use Rattle.ms_ir.proofs.order.Order.listed_once.Goals as goal

pub returns-clause-once : goal.returns-clause-once
returns-clause-once c = rw (← c.self.view_is) (stand_once c.self.inside.next.items c.self.inside.home.items c.self.inside.heads.items _ c.self.invariant.0)

pub returns-clause-below : goal.returns-clause-below
returns-clause-below c =
    rw (← c.self.view_is) (lists_below c.self.inside.next.items c.self.inside.home.items _ _ _ c.self.invariant.0 c.self.inside.next.ok.0)
