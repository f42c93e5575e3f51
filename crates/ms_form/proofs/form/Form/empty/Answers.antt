use Rattle.std.proofs.Common.{◌≡◌, ◌∙◌, arith, ap, refl, length}
use Rattle.std.proofs.lemmas.List.FromFn.{map-range_with_len_more, length-map-range_with_len}
use Rattle.ms_form.specs.Counts.{pred_count}
use Rattle.ms_form.proofs.form.Form.empty.Goals as goal

pub loop-b-preserved : goal.loop-b-preserved
loop-b-preserved c =
    rw (c.in_ok-push.ensures.items, map-range_with_len_more (pred_count c.args.flow.now) 0 c.loop-b.b c.loop-b.b (omega arith), c.loop-b.invariant, c.pred_count.ensures) refl

pub with_places-requires : goal.with_places-requires
with_places-requires c =
    let count_is : length c.deref.result.now ≡ c.loop-b.b = ap length c.deref.ensures.value ∙ ap length c.loop-b.invariant ∙ length-map-range_with_len (pred_count c.args.flow.now) 0 c.loop-b.b in
    omega arith
