use Rattle.std.proofs.Common.{arith}
use Rattle.ms_line.proofs.NumberLemmas.{next_value, passes}
use Rattle.ms_line.proofs.readable.is_at_most.Goals as goal

pub returns-then-value-most : goal.returns-then-value-most
returns-then-value-most c =
    (λ no. absurd (cc), λ below. absurd (passes c.args.digits.now c.loop-byte.byte-index c.loop-byte.value c.args.most c.requires c.loop-byte-test.true c.loop-byte.invariant.0 (omega arith) below))

pub returns-then-digit-most : goal.returns-then-digit-most
returns-then-digit-most c =
    let e = c.from-digit.ensures in let d = c.if-digit-most.true in
    (λ no. absurd (cc), λ below. absurd (passes c.args.digits.now c.loop-byte.byte-index c.loop-byte.value c.args.most c.requires c.loop-byte-test.true c.loop-byte.invariant.0 (omega (arith, e)) below))

pub loop-byte-preserved : goal.loop-byte-preserved
loop-byte-preserved c =
    let e = c.from-digit.ensures in
    let next = next_value c.args.digits.now c.loop-byte.byte-index c.loop-byte.value c.requires c.loop-byte-test.true c.loop-byte.invariant.0 in
    (omega (arith, e, next), omega (arith, e))
