use Rattle.std.proofs.Common.{subst}
use Rattle.ms_line.specs.Params.{IsMore, IsLast, IsDots}
use Rattle.ms_line.proofs.Cells.{not_true}
use Rattle.ms_line.proofs.ParamLemmas.{empty_found, none_so_far, more_so_far, last_so_far, dots_so_far}
use Rattle.ms_line.proofs.params.params.Goals as goal

pub returns-then-starts_with : goal.returns-then-starts_with
returns-then-starts_with c =
    let first = c.starts_with.ensures.is.0 c.if-starts_with.true in
    empty_found c.args.line.now c.args.tokens.now first.0 c.new-params.result c.new-params.ensures first.1 (c.starts_with.ensures.some c.if-starts_with.true)

pub loop-params-init : goal.loop-params-init
loop-params-init c =
    none_so_far c.args.line.now c.args.tokens.now c.new-params.result c.new-params.ensures (λ first. not_true c.starts_with.result c.if-starts_with.false (c.starts_with.ensures.is.1 first))

pub loop-params-preserved : goal.loop-params-preserved
loop-params-preserved c =
    let line = c.args.line.now in
    let p = c.in-Some-More.param in
    let taken = c.in-Some-More.taken in
    let is = rw c.in-Some-More.field-0-is at (rw c.in-Some-More.is at c.in_ok-param.ensures) in
    more_so_far line c.args.tokens.now c.loop-params.params c.loop-params.at taken p c.push.new.self c.loop-params.invariant (subst (λ ts. IsMore line ts p taken) c.behind.ensures.value is) c.in_ok-push-in-Some-More.ensures.ok

pub returns-in-Some-Last : goal.returns-in-Some-Last
returns-in-Some-Last c =
    let line = c.args.line.now in
    let p = c.in-Some-Last.param in
    let taken = c.in-Some-Last.taken in
    let is = rw c.in-Some-Last.field-0-is at (rw c.in-Some-Last.is at c.in_ok-param.ensures) in
    last_so_far line c.args.tokens.now c.loop-params.params c.loop-params.at taken p c.push-in-Some-Last.new.self c.loop-params.invariant (subst (λ ts. IsLast line ts p taken) c.behind.ensures.value is)
    c.in_ok-push-in-Some-Last.ensures.ok

pub returns-in-Some-Dots : goal.returns-in-Some-Dots
returns-in-Some-Dots c =
    let line = c.args.line.now in
    let is = rw c.in-Some-Dots.field-0-is at (rw c.in-Some-Dots.is at c.in_ok-param.ensures) in
    dots_so_far line c.args.tokens.now c.loop-params.params c.loop-params.at c.loop-params.invariant (subst (λ ts. IsDots line ts) c.behind.ensures.value is)
