use Rattle.std.proofs.Common.{◌≡◌, ◌<◌, false, length, sym, ap, ◌∙◌, subst, arith}
use Rattle.std.proofs.lemmas.List.{length-replicate, length-set}
use Rattle.std.proofs.lemmas.Bool.{both_ways}
use Rattle.ms_flow.proofs.Steps.{unseen-set}
use Rattle.ms_alias.specs.Building.{IsBeyond}
use Rattle.ms_alias.proofs.Rings.{next_step, trail_begun, trail_more, ends_without, ends_met, ends_back}
use Rattle.ms_alias.specs.Roots.{step_of}
use Rattle.ms_alias.proofs.Rings.{local}
use Rattle.ms_alias.proofs.origins.comes_back.Goals as goal

pub walk-init : goal.walk-init
walk-init c =
    let len : length c.clear.new.self ≡ length c.args.marks.now = ap length c.clear.ensures ∙ length-replicate (length c.args.marks.now) false in
    let there = c.requires.there in
    let limit = c.len-limit.ensures.len in
    (rw c.clear.ensures (trail_begun c.args.func.now c.len-limit.result c.args.l (length c.args.marks.now)), sym limit, omega arith)

pub walk-preserved : goal.walk-preserved
walk-preserved c =
    let e = sym c.next_of.ensures ∙ c.in-Some.is in
    let s = next_step c.args.func.now c.len-limit.result c.walk.at c.in-Some.next (step_of c.args.func.now (local c.walk.at)) e in
    let len = c.walk.invariant.1 in
    let lt : c.in-Some.next < length c.walk.marks = omega (arith, s.3) in
    (rw c.put.ensures (trail_more c.args.func.now c.len-limit.result c.args.l c.walk.at c.in-Some.next c.walk.marks c.walk.invariant.0 e c.if-next-l.false lt), rw (c.put.ensures, length-set) len, s.3)

pub walk-smaller : goal.walk-smaller
walk-smaller c =
    let e = sym c.next_of.ensures ∙ c.in-Some.is in
    let s = next_step c.args.func.now c.len-limit.result c.walk.at c.in-Some.next (step_of c.args.func.now (local c.walk.at)) e in
    let len = c.walk.invariant.1 in
    let lt : c.in-Some.next < length c.walk.marks = omega (arith, s.3) in
    let fall = unseen-set c.walk.marks c.in-Some.next lt (sym c.has.ensures ∙ c.if-has.false) in
    rw c.put.ensures (omega (arith, fall))

pub returns-in-None-clause-ring : goal.returns-in-None-clause-ring
returns-in-None-clause-ring c =
    let e = sym c.next_of.ensures ∙ c.in-None.is in
    let len : length c.clear.new.self ≡ length c.args.marks.now = ap length c.clear.ensures ∙ length-replicate (length c.args.marks.now) false in
    let same = sym len ∙ sym c.len-limit.ensures.len in
    let beyond = subst (IsBeyond c.args.func.now) same c.requires.beyond in
    (λ t. absurd (both_ways false (cc) t), λ ring. absurd (ends_without c.args.func.now c.len-limit.result c.args.l c.walk.at c.walk.marks beyond c.walk.invariant.0 e ring))

pub returns-then-next-l-clause-ring : goal.returns-then-next-l-clause-ring
returns-then-next-l-clause-ring c =
    let e = sym c.next_of.ensures ∙ c.in-Some.is in
    (λ t. ends_back c.args.func.now c.len-limit.result c.args.l c.walk.at c.in-Some.next c.walk.marks c.walk.invariant.0 e c.if-next-l.true, λ ring. cc)

pub returns-then-has-clause-ring : goal.returns-then-has-clause-ring
returns-then-has-clause-ring c =
    let e = sym c.next_of.ensures ∙ c.in-Some.is in
    (λ t. absurd (both_ways false (cc) t), λ ring. absurd (ends_met c.args.func.now c.len-limit.result c.args.l c.walk.at c.in-Some.next c.walk.marks c.walk.invariant.0 e (sym c.has.ensures ∙ c.if-has.true) ring))
