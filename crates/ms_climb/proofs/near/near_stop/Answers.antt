use Rattle.std.proofs.Common.{◌≡◌, ◌∷◌, ◌∙◌, ◌+◌, [], false, length, sym, arith, length-append}
use Rattle.ms_climb.proofs.NearLemmas.{chain_more}
use Rattle.ms_climb.proofs.near.near_stop.Goals as goal

pub climbing-preserved : goal.climbing-preserved
climbing-preserved g c =
    let f = c.args.form.now in
    let E = g.W.Writes.test c.args.counted.now in
    let i = c.in-Of.i in
    let passed = c.climbing.passed.items in
    let passes : E i.0 ≡ false = sym c.writes.ensures ∙ c.if-writes.false in
    let more : length c.push.new.self.items ≡ length passed + 1 = rw c.in_ok-push-in-Of.ensures.items (length-append passed (i ∷ [])) in
    record {
      chain = rw (c.in_ok-push-in-Of.ensures.items, c.access_before-at.ensures) (chain_more f E passed c.args.from c.climbing.at i c.climbing.invariant.chain c.in-Of.is passes);
      few = omega arith;
    }
