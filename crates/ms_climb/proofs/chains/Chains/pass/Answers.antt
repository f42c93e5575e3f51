use Rattle.std.proofs.Common.{◌≡◌, length, ap, arith}
use Rattle.ms_climb.specs.Chains.{ChainsState, first_of}
use Rattle.ms_climb.proofs.ChainLemmas.{passing_next}
use Rattle.ms_climb.proofs.chains.Chains.pass.Goals as goal

pub loop-i-preserved : goal.loop-i-preserved
loop-i-preserved c = λ f E h.
    let s = c.loop-i.self in
    let marks : c.self-in-loop-i.inside.marks.items ≡ s.marks = ap (λ (x : ChainsState). x.marks) c.self-in-loop-i.view_is in
    let stops : c.self-in-loop-i.inside.stops.items ≡ s.stops = ap (λ (x : ChainsState). x.stops) c.self-in-loop-i.view_is in
    let size : length c.self.inside.stops.items ≡ length c.args.self.now.stops = ap (λ (x : ChainsState). length x.stops) c.self.view_is in
    let chain : c.len-chain.result ≡ length c.args.self.now.stops = omega arith in
    let e = c.in-Some.ensures in
    let next = passing_next f E (first_of c.args.passed.now c.args.to) c.args.to c.args.passed.now c.loop-i.i-index c.in-Some.i c.args.self.now s (c.loop-i.invariant f E h) c.loop-i-test.true e.0 e.1 e.2 in
    rw (marks, stops) (rw (← chain) at next)
