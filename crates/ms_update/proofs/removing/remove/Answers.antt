use Rattle.std.proofs.Common.{◌∙◌, sym, subst, arith}
use Rattle.ms_paths.specs.Flow.{IsReducible}
use Rattle.ms_form.specs.Counts.{pred_counts}
use Rattle.ms_build.proofs.Answered.{form_of_function}
use Rattle.ms_ir.proofs.FuncLemmas.{at_and_nowhere}
use Rattle.ms_build.proofs.Whole.{filled_settled}
use Rattle.ms_update.specs.Edits.{blocks_without, func_without}
use Rattle.ms_update.proofs.Formed.{filled_form}
use Rattle.ms_update.proofs.Without.{edges_without, one_without, closed_without}
use Rattle.ms_update.proofs.removing.remove.Goals as goal

pub unreachable-requires : goal.unreachable-requires
unreachable-requires c = let at = c.requires.there.3 in at_and_nowhere c.args.func.now.blocks c.args.i.0 c.requires.there.0 c.requires.there.1 c.requires.there.2 c.in-None.ensures at

pub take_out-requires-clause-filled : goal.take_out-requires-clause-filled
take_out-requires-clause-filled c =
    let func = c.args.func.now in
    let flow = c.args.flow.now in
    let closed = rw (← c.requires.graph) at (c.same_paths.ensures.closed func.blocks c.requires.closed) in
    filled_form func flow c.args.form.now c.requires.graph c.numbered.ensures.one_place (c.same_paths.ensures.edges func.blocks) (c.same_paths.ensures.reached func.blocks)
    (c.order_told.ensures.reached flow.graph closed) (c.sources_told.ensures.edges flow.graph closed) c.requires.form c.one_answer.ensures.one

pub settle-requires-clause-places : goal.settle-requires-clause-places
settle-requires-clause-places c =
    let p = c.take_out.ensures.places (pred_counts c.args.flow.now) c.args.func.now.made c.requires.places in
    record { blocks = p.blocks; slots = p.slots; numbers = omega arith }

pub returns-clause-form : goal.returns-clause-form
returns-clause-form c =
    let flow = c.args.flow.now in
    let func = c.args.func.now in
    let i = c.args.i.0 in
    let f = c.settle.new.form in
    let closed = rw (← c.requires.graph) at (c.same_paths.ensures.closed func.blocks c.requires.closed) in
    let same = c.requires.graph ∙ sym (edges_without i func.blocks) in
    let reducible = (c.same_paths.ensures.reducible (blocks_without i func.blocks)).0 (subst IsReducible same c.requires.reducible) in
    form_of_function (func_without i func) flow f same (one_without i func.blocks c.numbered.ensures.one_place) (closed_without i func.blocks c.requires.closed) reducible (c.same_paths.ensures.edges (blocks_without i func.blocks)) (c.same_paths.ensures.reached (blocks_without i func.blocks))
    (c.order_told.ensures.reached flow.graph closed) (c.sources_told.ensures.edges flow.graph closed) (c.sources_told.ensures.all flow.graph closed)
    (filled_settled (func_without i func) flow.graph c.take_out.new.form f c.take_out.ensures.filled c.settle.ensures.settled c.settle.ensures.consistent) c.settle.ensures.none_trivial
    c.whole_form.ensures c.region_form.ensures.accesses

pub returns-clause-places : goal.returns-clause-places
returns-clause-places c = c.settle.ensures.places (pred_counts c.args.flow.now) c.args.func.now.made (c.take_out.ensures.places (pred_counts c.args.flow.now) c.args.func.now.made c.requires.places)
