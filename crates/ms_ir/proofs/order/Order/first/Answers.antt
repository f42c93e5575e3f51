use Rattle.std.proofs.Common.{rules}
use Rattle.ms_ir.proofs.OrderLemmas.{first_place}
use Rattle.ms_ir.proofs.order.Order.first.Goals as goal

pub returns : goal.returns
returns c =
    rw (← c.self.view_is) (record { number = first_place c.self.inside.next.items c.self.inside.home.items c.self.inside.heads.items _ c.args.block c.index.result.now c.self.invariant.0 (search rules) c.index.ensures })
