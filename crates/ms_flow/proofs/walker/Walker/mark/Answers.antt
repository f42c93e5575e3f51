use Rattle.std.proofs.Common.{arith}
use Rattle.ms_flow.proofs.Steps.{unseen-set_le}
use Rattle.ms_flow.proofs.walker.Walker.mark.Goals as goal

pub invariant_of-self : goal.invariant_of-self
invariant_of-self c =
    let fewer = unseen-set_le c.self.inside.marks.items c.args.b in
    (omega arith, omega arith, omega arith, omega arith, omega arith)
