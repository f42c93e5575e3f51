use Rattle.std.proofs.Common.{arith}
use Rattle.ms_build.proofs.Slots.{blocks_of_form}
use Rattle.ms_build.proofs.Turns.{settling_begun, settling_next, none_waits, work_falls}
use Rattle.ms_build.proofs.settling.settle.Goals as goal

pub await_all-requires : goal.await_all-requires
await_all-requires c =
    let n = blocks_of_form c.args.flow.now 0 c.args.form.now c.requires.places in
    let m = c.block_count.ensures in
    omega arith

pub settling-init : goal.settling-init
settling-init c =
    settling_begun c.args.flow.now c.args.form.now c.await_all.new.form c.await_all.ensures.same (λ b lt. c.await_all.ensures.all b (let m = c.block_count.ensures in omega arith)) c.await_all.ensures.places
    c.requires.places c.requires.consistent

pub settling-preserved : goal.settling-preserved
settling-preserved c =
    settling_next c.args.flow.now c.args.form.now c.settling.form c.next_waiting.new.self c.try_out.new.form c.in-Some.b c.settling.invariant
    c.in-Some.ensures.next.0 c.in-Some.ensures.next.1 c.in-Some.ensures.next.2 c.next_waiting.ensures.places c.try_out.ensures.tried c.try_out.ensures.places

pub settling-smaller : goal.settling-smaller
settling-smaller c =
    work_falls c.args.flow.now.graph c.settling.form c.next_waiting.new.self c.try_out.new.form c.in-Some.b c.in-Some.ensures.next.1 c.in-Some.ensures.next.2 c.try_out.ensures.tried c.waits_once.ensures

pub returns-clause-none_trivial : goal.returns-clause-none_trivial
returns-clause-none_trivial c =
    rw c.in_default.ensures.next.1 (none_waits c.args.flow.now c.args.form.now c.settling.form c.settling.invariant c.in_default.ensures.next.0)

pub returns-clause-places : goal.returns-clause-places
returns-clause-places c = λ counts insts h. rw c.in_default.ensures.next.1 (c.settling.invariant.keeps counts insts h)
