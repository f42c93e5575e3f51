use Rattle.std.proofs.Common.{◌+◌, arith}
use Rattle.ms_paths.specs.Flow.{Phi}
use Rattle.ms_session.proofs.NumberLemmas.{number_by}
use Rattle.ms_session.proofs.numbers.Numbers.of_phi.Goals as goal

pub returns : goal.returns
returns c =
    let s = c.self.inside in
    rw (← c.self.view_is)
    (number_by s.accesses.items s.phis.items c.as_slice.result.now c.args.b.0 (c.len.result + 1) c.number_at.result (Phi c.args.b.0) c.number_at.ensures c.as_slice.ensures.value
    (omega (arith, s.accesses.ok.0)) (c.self.invariant.at_phis c.args.b.0))
