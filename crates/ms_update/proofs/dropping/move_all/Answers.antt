use Rattle.std.proofs.Common.{◌≡◌, ◌<◌, ◌+◌, length, subst, arith, ℕ}
use Rattle.ms_form.specs.Form.{entry_of}
use Rattle.ms_form.specs.Counts.{pred_counts}
use Rattle.ms_flow.specs.Cut.{place_before}
use Rattle.ms_build.specs.Changes.{IsChanged}
use Rattle.ms_build.proofs.Rules.{kept, changed_none, changed_both}
use Rattle.ms_build.proofs.Slots.{slots_of_form}
use Rattle.ms_update.specs.Dropped.{one_moved, all_moved}
use Rattle.ms_update.proofs.Moved.{all_begun, all_next}
use Rattle.ms_update.proofs.dropping.move_all.Goals as goal

pub loop-b-init : goal.loop-b-init
loop-b-init c =
    let f = c.args.form.now in
    let g = c.args.flow.now.graph in
    let before = place_before c.args.flow.now.before in
    (changed_both kept kept (all_moved g before f 0) f f f (changed_none f) (changed_none f) (λ u. all_begun g before f u (entry_of f u)), omega arith)

pub move_block-requires-clause-slots : goal.move_block-requires-clause-slots
move_block-requires-clause-slots c =
    let lt : c.loop-b.b < length c.args.flow.now.graph = (let t = c.loop-b-test.true in let n = c.block_count-b-end.ensures in omega arith) in
    slots_of_form c.args.flow.now 0 c.loop-b.form c.loop-b.b (c.loop-b.invariant.0.places (pred_counts c.args.flow.now) 0 c.requires.places) lt

pub move_block-requires-clause-behind : goal.move_block-requires-clause-behind
move_block-requires-clause-behind c =
    let lt : c.loop-b.b < length c.args.flow.now.graph = (let t = c.loop-b-test.true in let n = c.block_count-b-end.ensures in omega arith) in
    λ slot at. c.requires.behind c.loop-b.b slot lt at

pub loop-b-preserved : goal.loop-b-preserved
loop-b-preserved c =
    let f = c.args.form.now in
    let g = c.args.flow.now.graph in
    let before = place_before c.args.flow.now.before in
    let h = c.loop-b.form in
    let n = c.loop-b.b in (
      changed_both (all_moved g before f n) (one_moved g before h n) (all_moved g before f (n + 1)) f h c.move_block.new.form c.loop-b.invariant.0 c.move_block.ensures (λ u. all_next g before f h n u (entry_of f u) c.loop-b.invariant.0),
      (let t = c.loop-b-test.true in let k = c.block_count-b-end.ensures in omega arith),
    )

pub returns : goal.returns
returns c =
    let f = c.args.form.now in
    let g = c.args.flow.now.graph in
    let end = c.loop-b-test.false in
    let count = c.block_count-b-end.ensures in
    let most = c.loop-b.invariant.1 in
    let all : c.loop-b.b ≡ length g = omega arith in
    subst (λ (n : ℕ). IsChanged (all_moved g (place_before c.args.flow.now.before) f n) f c.loop-b.form) all c.loop-b.invariant.0
