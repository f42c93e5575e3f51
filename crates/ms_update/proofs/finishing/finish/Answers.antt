use Rattle.std.proofs.Common.{subst, arith}
use Rattle.ms_paths.specs.Flow.{IsReducible}
use Rattle.ms_form.specs.Counts.{pred_counts}
use Rattle.ms_build.proofs.Answered.{form_of_function}
use Rattle.ms_build.proofs.Whole.{filled_settled}
use Rattle.ms_update.proofs.finishing.finish.Goals as goal

pub settle-requires-clause-places : goal.settle-requires-clause-places
settle-requires-clause-places c = let p = c.requires.places in record { blocks = p.blocks; slots = p.slots; numbers = omega arith }

pub returns-clause-form : goal.returns-clause-form
returns-clause-form c =
    let flow = c.args.flow.now in
    let func = c.args.func.now in
    let f = c.settle.new.form in
    let closed = rw (← c.requires.graph) at (c.same_paths.ensures.closed func.blocks c.requires.closed) in
    let reducible = (c.same_paths.ensures.reducible func.blocks).0 (subst IsReducible c.requires.graph c.requires.reducible) in
    form_of_function func flow f c.requires.graph c.numbered.ensures.one_place c.requires.closed reducible (c.same_paths.ensures.edges func.blocks) (c.same_paths.ensures.reached func.blocks)
    (c.order_told.ensures.reached flow.graph closed) (c.sources_told.ensures.edges flow.graph closed) (c.sources_told.ensures.all flow.graph closed)
    (filled_settled func flow.graph c.args.form.now f c.requires.filled c.settle.ensures.settled c.settle.ensures.consistent) c.settle.ensures.none_trivial
    c.whole_form.ensures c.region_form.ensures.accesses

pub returns-clause-places : goal.returns-clause-places
returns-clause-places c = c.settle.ensures.places (pred_counts c.args.flow.now) c.args.func.now.made c.requires.places
