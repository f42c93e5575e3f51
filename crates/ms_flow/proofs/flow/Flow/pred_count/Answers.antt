use Rattle.std.proofs.Common.{arith}
use Rattle.ms_flow.proofs.Edges.{listed_few}
use Rattle.ms_flow.proofs.flow.Flow.pred_count.Goals as goal

pub count-requires-clause-few : goal.count-requires-clause-few
count-requires-clause-few c =
    let lt = rw (← c.self.view_is) at c.requires in
    let few = listed_few _ c.self.inside.table _ _ _ c.self.invariant.listed c.bounded.ensures.few c.args.b.0 lt in
    let small = c.bounded.ensures.small in
    omega arith
