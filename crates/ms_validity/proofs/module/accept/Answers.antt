use Rattle.std.proofs.Common.{arith}
use Rattle.ms_validity.proofs.FaultLemmas.{few_bodies}
use Rattle.ms_validity.proofs.module.accept.Goals as goal

pub fault_in-requires-clause-limit : goal.fault_in-requires-clause-limit
fault_in-requires-clause-limit c =
    let r = c.in_ok-module.ensures.ok in
    let few = few_bodies c.args.draft.now r.items _ r.shape r.whole in
    let len = c.len-limit.ensures in
    omega arith
