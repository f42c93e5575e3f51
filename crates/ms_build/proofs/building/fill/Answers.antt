use Rattle.std.proofs.Common.{◌∙◌, ap, sym, subst, arith, length, List}
use Rattle.std.specs.Prelude.{is_some}
use Rattle.ms_paths.specs.Flow.{Block as Run}
use Rattle.ms_form.specs.Counts.{pred_counts}
use Rattle.ms_build.specs.Entering.{IsOrdered, all_filled}
use Rattle.ms_build.proofs.Slots.{blocks_of_form}
use Rattle.ms_build.proofs.Fill.{same_entering}
use Rattle.ms_build.proofs.Whole.{OrderReached, blank_empty, past_all, phi_reached, keeps_filled, filled_of}
use Rattle.ms_build.proofs.building.fill.Goals as goal

pub set_lasts-requires-clause-blocks : goal.set_lasts-requires-clause-blocks
set_lasts-requires-clause-blocks c =
    blocks_of_form c.args.flow.now c.made.result c.in_ok-form.form c.in_ok-form.ensures.places ∙ ap (λ (g : List Run). length g) c.requires.graph ∙ c.same_paths.ensures.blocks c.args.func.now.blocks

pub enter_blocks-requires-clause-blocks : goal.enter_blocks-requires-clause-blocks
enter_blocks-requires-clause-blocks c =
    blocks_of_form c.args.flow.now c.made.result c.set_lasts.new.form (c.set_lasts.ensures.places (pred_counts c.args.flow.now) c.made.result c.in_ok-form.ensures.places)

pub enter_blocks-requires-clause-blank : goal.enter_blocks-requires-clause-blank
enter_blocks-requires-clause-blank c = blank_empty (pred_counts c.args.flow.now) c.made.result c.in_ok-form.form c.set_lasts.new.form c.in_ok-form.ensures.form c.set_lasts.ensures.rest

pub fill_operands-requires-clause-places : goal.fill_operands-requires-clause-places
fill_operands-requires-clause-places c =
    let p = c.enter_blocks.ensures.places (pred_counts c.args.flow.now) c.made.result (c.set_lasts.ensures.places (pred_counts c.args.flow.now) c.made.result c.in_ok-form.ensures.places) in
    record { blocks = p.blocks; slots = p.slots; numbers = omega arith }

pub fill_operands-requires-clause-entered : goal.fill_operands-requires-clause-entered
fill_operands-requires-clause-entered c = λ x r.
    let g = c.args.flow.now.graph in
    let order : OrderReached g = c.order_told.ensures.reached g c.requires.closed in
    let ordered : IsOrdered g c.as_slice.result.now = subst (IsOrdered g) (sym c.as_slice.ensures.value) c.in_ok-blocks.ensures in
    c.enter_blocks.ensures.entered.filled x (past_all g c.as_slice.result.now order ordered x r)

pub fill_operands-requires-clause-phis : goal.fill_operands-requires-clause-phis
fill_operands-requires-clause-phis c = λ x t.
    let g = c.args.flow.now.graph in
    let order : OrderReached g = c.order_told.ensures.reached g c.requires.closed in
    phi_reached g (length c.as_slice.result.now) c.enter_blocks.new.form order c.enter_blocks.ensures.entered x t

pub define_all-requires-clause-entered : goal.define_all-requires-clause-entered
define_all-requires-clause-entered c = λ x r.
    let g = c.args.flow.now.graph in
    let f = c.enter_blocks.new.form in
    let order : OrderReached g = c.order_told.ensures.reached g c.requires.closed in
    let ordered : IsOrdered g c.as_slice.result.now = subst (IsOrdered g) (sym c.as_slice.ensures.value) c.in_ok-blocks.ensures in
    ap is_some (same_entering (all_filled g f) f c.fill_operands.new.form (keeps_filled g f) c.fill_operands.ensures x) ∙ c.enter_blocks.ensures.entered.filled x (past_all g c.as_slice.result.now order ordered x r)

pub returns-clause-filled : goal.returns-clause-filled
returns-clause-filled c =
    let g = c.args.flow.now.graph in
    let order : OrderReached g = c.order_told.ensures.reached g c.requires.closed in
    let ordered : IsOrdered g c.as_slice.result.now = subst (IsOrdered g) (sym c.as_slice.ensures.value) c.in_ok-blocks.ensures in
    filled_of c.args.func.now g (length c.as_slice.result.now) c.set_lasts.new.form c.enter_blocks.new.form c.fill_operands.new.form c.define_all.new.form order
    (c.sources_told.ensures.edges g c.requires.closed) (past_all g c.as_slice.result.now order ordered) c.set_lasts.ensures.lasts c.enter_blocks.ensures.entered c.enter_blocks.ensures.lasts
    c.fill_operands.ensures c.define_all.ensures

pub returns-clause-places : goal.returns-clause-places
returns-clause-places c =
    let counts = pred_counts c.args.flow.now in
    let n = c.made.result in
    let p = c.define_all.ensures.places counts n (c.fill_operands.ensures.places counts n (c.enter_blocks.ensures.places counts n (c.set_lasts.ensures.places counts n c.in_ok-form.ensures.places))) in
    rw (← c.made.ensures) p
