use Rattle.std.proofs.Common.{arith}
use Rattle.ms_flow.proofs.Steps.{unseen_le}
use Rattle.ms_alias.proofs.flood.Flood.clear.Goals as goal

pub invariant_of-self : goal.invariant_of-self
invariant_of-self c =
    let all = c.self.invariant.1 in
    let fewer = unseen_le c.fill.new.self.items in
    let marks = c.fill.new.self.ok.0 in
    let len = c.fill.ensures.len in
    let none = c.clear.ensures.len in
    let capacity = c.clear.ensures.capacity in
    (omega arith, omega arith)
