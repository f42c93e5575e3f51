use Rattle.std.proofs.Common.{arith}
use Rattle.ms_flow.proofs.Steps.{read_mark, unseen-set}
use Rattle.ms_alias.proofs.flood.Flood.meet.Goals as goal

pub push_reserved-requires : goal.push_reserved-requires
push_reserved-requires c =
    let room = c.self.invariant.0 in
    let marks = c.self.inside.marks.ok.0 in
    let len = c.len.ensures in
    let below = c.if-m-len.false in
    let new = read_mark c.self.inside.marks.items c.args.m c.index.result.now _ (omega arith) c.index.ensures c.if-not-index.true in
    let fall = unseen-set c.self.inside.marks.items c.args.m (omega arith) new in
    omega arith

pub invariant_of-self : goal.invariant_of-self
invariant_of-self c =
    let room = c.self.invariant.0 in
    let all = c.self.invariant.1 in
    let marks = c.self.inside.marks.ok.0 in
    let len = c.len.ensures in
    let below = c.if-m-len.false in
    let new = read_mark c.self.inside.marks.items c.args.m c.index.result.now _ (omega arith) c.index.ensures c.if-not-index.true in
    let fall = unseen-set c.self.inside.marks.items c.args.m (omega arith) new in
    let pushed = c.push_reserved.ensures.len in
    let capacity = c.push_reserved.ensures.capacity in
    (omega arith, omega arith)
