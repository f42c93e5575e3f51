use Rattle.std.proofs.Common.{◌∙◌, ap, length, arith, List}
use Rattle.std.proofs.lemmas.Bool.{both_ways}
use Rattle.ms_paths.specs.Flow.{Block as Run}
use Rattle.ms_build.proofs.Slots.{blocks_of_form}
use Rattle.ms_update.proofs.Cleared.{lost_begun, lost_next, lost_skip, lost_all}
use Rattle.ms_update.proofs.dropping.clear_lost.Goals as goal
use Rattle.ms_update.proofs.dropping.clear_lost.Goals.{then-not-reached, else-not-reached}

pub loop-b-init : goal.loop-b-init
loop-b-init c = (lost_begun c.args.func.now.blocks c.args.flow.now.graph c.args.form.now, omega arith)

pub clear_block-requires-clause-block : goal.clear_block-requires-clause-block
clear_block-requires-clause-block c =
    let same = ap (λ (g : List Run). length g) c.requires.graph ∙ c.same_paths.ensures.blocks c.args.func.now.blocks in
    let t = c.loop-b-test.true in
    let n = c.block_count-b-end.ensures in
    omega arith

pub clear_block-requires-clause-there : goal.clear_block-requires-clause-there
clear_block-requires-clause-there c =
    let size = blocks_of_form c.args.flow.now c.args.func.now.made c.args.form.now c.requires.places in
    let same = c.loop-b.invariant.0.blocks_stay in
    let t = c.loop-b-test.true in
    let n = c.block_count-b-end.ensures in
    omega arith

pub clear_block-requires-clause-numbers : goal.clear_block-requires-clause-numbers
clear_block-requires-clause-numbers c =
    let same = c.loop-b.invariant.0.numbers in
    let all = c.requires.places.numbers in
    omega arith

pub loop-b-preserved : goal.loop-b-preserved
loop-b-preserved c =
    let g = c.args.flow.now.graph in
    let blocks = c.args.func.now.blocks in
    let f = c.args.form.now in
    let b = c.loop-b.b in
    let t = c.loop-b-test.true in
    let n = c.block_count-b-end.ensures in
    elim c.if-not-reached.branch [
      | then-not-reached w ↦ (
        rw w.form-is (lost_next blocks g b f c.loop-b.form w.clear_block.new.form (λ r. both_ways _ w.if-not-reached.true (c.reached.ensures.1 r)) c.loop-b.invariant.0 w.clear_block.ensures),
        omega arith,
      )
      | else-not-reached w ↦ (
        rw w.form-is (lost_skip blocks g b f c.loop-b.form (c.reached.ensures.0 w.if-not-reached.false) c.loop-b.invariant.0),
        omega arith,
      )
    ]

pub returns-clause-cleared : goal.returns-clause-cleared
returns-clause-cleared c =
    let end = c.loop-b-test.false in
    let count = c.block_count-b-end.ensures in
    let most = c.loop-b.invariant.1 in
    lost_all c.args.func.now.blocks c.args.flow.now.graph c.loop-b.b c.args.form.now c.loop-b.form (omega arith) c.loop-b.invariant.0
