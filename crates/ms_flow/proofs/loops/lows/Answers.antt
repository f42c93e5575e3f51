use Rattle.std.proofs.Common.{◌≡◌, ◌+◌, ◌-◌, length, get_or, set, sym, ap, ◌∙◌, subst, arith}
use Rattle.std.proofs.lemmas.List.{length-reverse}
use Rattle.ms_flow.specs.Flow.{place_of, walked}
use Rattle.ms_flow.specs.Loops.{AreLow}
use Rattle.ms_flow.proofs.Listed.{reached_below}
use Rattle.ms_flow.proofs.Lows.{none_low, more_low}
use Rattle.ms_flow.proofs.Orders.{left_place}
use Rattle.ms_flow.proofs.loops.lows.Goals as goal

pub loop-k-init : goal.loop-k-init
loop-k-init c =
    let all : length c.args.left.now ≡ length (walked c.args.table.now).left = sym (length-reverse c.args.left.now) ∙ ap length c.requires.left in
    none_low c.args.table.now c.requires.closed c.args.lows.now.items (length c.args.left.now - 0) c.requires.sized (omega arith)

pub low_of-requires-clause-b : goal.low_of-requires-clause-b
low_of-requires-clause-b c =
    let r = left_place c.args.table.now c.requires.closed c.args.left.now c.requires.left c.loop-k.k (omega arith) in
    reached_below c.args.table.now c.requires.closed _ r.0

pub low_of-requires-clause-reached : goal.low_of-requires-clause-reached
low_of-requires-clause-reached c = (left_place c.args.table.now c.requires.closed c.args.left.now c.requires.left c.loop-k.k (omega arith)).0

pub low_of-requires-clause-behind : goal.low_of-requires-clause-behind
low_of-requires-clause-behind c =
    let g = c.args.table.now in
    let left = c.args.left.now in
    let r = left_place g c.requires.closed left c.requires.left c.loop-k.k (omega arith) in
    let place = r.1 in
    let from : length left - c.loop-k.k ≡ place_of g (get_or left c.loop-k.k 0) + 1 = omega arith in
    rw c.as_slice.ensures.value (subst (λ n. AreLow g n c.loop-k.lows.items) from c.loop-k.invariant)

pub index_mut-requires : goal.index_mut-requires
index_mut-requires c =
    let g = c.args.table.now in
    let r = left_place g c.requires.closed c.args.left.now c.requires.left c.loop-k.k (omega arith) in
    let below = reached_below g c.requires.closed _ r.0 in
    let blocks = c.loop-k.invariant.blocks in
    let size = c.loop-k.lows.ok.0 in
    omega arith

pub loop-k-preserved : goal.loop-k-preserved
loop-k-preserved c =
    let g = c.args.table.now in
    let left = c.args.left.now in
    let k = c.loop-k.k in
    let b = get_or left k 0 in
    let r = left_place g c.requires.closed left c.requires.left k (omega arith) in
    let place = r.1 in
    let from : length left - k ≡ place_of g b + 1 = omega arith in
    let next : place_of g b ≡ length left - (k + 1) = omega arith in
    subst (λ n. AreLow g n (set c.loop-k.lows.items b c.low_of.result)) next
    (more_low g c.requires.closed b c.low_of.result c.loop-k.lows.items r.0 (reached_below g c.requires.closed b r.0) c.low_of.ensures (subst (λ n. AreLow g n c.loop-k.lows.items) from c.loop-k.invariant))
