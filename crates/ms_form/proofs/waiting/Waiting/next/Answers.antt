use Rattle.std.proofs.Common.{arith}
use Rattle.ms_form.proofs.WaitingLemmas.{last_below}
use Rattle.ms_form.proofs.waiting.Waiting.next.Goals as goal

pub index_mut-requires : goal.index_mut-requires
index_mut-requires c =
    let marked = rw c.in_ok-b.ensures.items at c.self.invariant.0 in
    omega (arith, last_below c.self.inside.marks.items c.pop.new.self.items c.in_ok-b.b marked, c.self.inside.marks.ok.0)
