use Rattle.std.proofs.Common.{arith}
use Rattle.ms_flow.proofs.Steps.{unseen_le}
use Rattle.ms_flow.proofs.walker.Walker.clear.Goals as goal

pub invariant_of-self : goal.invariant_of-self
invariant_of-self c =
    let fewer = unseen_le c.fill.new.self.items in
    let marks = c.fill.new.self.ok.0 in
    (omega arith, omega arith, omega arith, omega arith, omega arith)
