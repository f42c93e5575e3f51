use Rattle.std.proofs.Common.{◌≡◌, ◌∙◌, false, length, ap, sym, arith}
use Rattle.ms_climb.specs.Chains.{ChainsState, first_of}
use Rattle.ms_climb.proofs.Options.{free_falls}
use Rattle.ms_climb.proofs.ChainLemmas.{climbing_passes, climb_ended}
use Rattle.ms_climb.proofs.chains.Chains.climb.Goals as goal

pub climbing-smaller-then-writes : goal.climbing-smaller-then-writes
climbing-smaller-then-writes g c =
    let same : c.self-in-climbing.inside.marks.items ≡ c.climbing.self.marks = ap (λ (s : ChainsState). s.marks) c.self-in-climbing.view_is in
    rw same (free_falls c.climbing.self.marks c.in-Some.i.0 _ c.in-Some.ensures.1 c.in-Some.ensures.2)

pub climbing-smaller : goal.climbing-smaller
climbing-smaller g c =
    let same : c.self-in-climbing.inside.marks.items ≡ c.climbing.self.marks = ap (λ (s : ChainsState). s.marks) c.self-in-climbing.view_is in
    rw same (free_falls c.climbing.self.marks c.in-Some.i.0 _ c.in-Some.ensures.1 c.in-Some.ensures.2)

pub returns : goal.returns
returns g c =
    let s = c.climbing.self in
    let marks : c.self-2.inside.marks.items ≡ s.marks = ap (λ (x : ChainsState). x.marks) c.self-2.view_is in
    let stops : c.self-2.inside.stops.items ≡ s.stops = ap (λ (x : ChainsState). x.stops) c.self-2.view_is in
    rw (c.in_ok-push.ensures.items, marks, stops)
    (climb_ended c.args.form.now (g.W.Writes.test c.args.counted.now) (first_of c.args.passed.now c.args.from) c.climbing.at c.stop-stop.result c.args.self.now s c.requires.climbed c.climbing.invariant c.in_default.ensures c.stop-stop.ensures)

pub climbing-preserved : goal.climbing-preserved
climbing-preserved g c =
    let f = c.args.form.now in
    let E = g.W.Writes.test c.args.counted.now in
    let s = c.climbing.self in
    let marks : c.self-in-climbing.inside.marks.items ≡ s.marks = ap (λ (x : ChainsState). x.marks) c.self-in-climbing.view_is in
    let stops : c.self-in-climbing.inside.stops.items ≡ s.stops = ap (λ (x : ChainsState). x.stops) c.self-in-climbing.view_is in
    let size : length c.self.inside.stops.items ≡ length c.args.self.now.stops = ap (λ (x : ChainsState). length x.stops) c.self.view_is in
    let chain : c.len-chain.result ≡ length c.args.self.now.stops = omega arith in
    let passes : E c.in-Some.i.0 ≡ false = sym c.writes.ensures ∙ c.if-writes.false in
    rw (c.access_before-at.ensures, marks, stops, chain)
    (climbing_passes f E c.in-Some.i (first_of c.args.passed.now c.args.from) c.climbing.at c.args.self.now s c.climbing.invariant c.in-Some.ensures.0 c.in-Some.ensures.1 c.in-Some.ensures.2 passes)
