use Rattle.std.proofs.Common.{◌≡◌, ◌∙◌, ℕ, ap, sym, subst, arith, List}
use Rattle.std.specs.Prelude.{Bool, slice_index_or, false}
use Rattle.ms_paths.specs.Flow.{Block as Run, IsReducible}
use Rattle.ms_flow.specs.Table.{edges_of}
use Rattle.ms_form.specs.Counts.{pred_counts}
use Rattle.ms_build.specs.Accesses.{has_phi}
use Rattle.ms_build.proofs.Answered.{form_of_function}
use Rattle.ms_ir.proofs.FuncLemmas.{at_and_nowhere}
use Rattle.ms_build.proofs.Whole.{filled_settled}
use Rattle.ms_update.specs.Edits.{blocks_without, func_without}
use Rattle.ms_update.specs.Reads.{IsPutRead}
use Rattle.ms_update.proofs.Formed.{filled_form}
use Rattle.ms_update.proofs.Without.{edges_without, empty_without, filled_same, one_without}
use Rattle.ms_update.proofs.inserting.insert.Goals as goal

pub unreachable-requires : goal.unreachable-requires
unreachable-requires c = let at = c.requires.there.3 in at_and_nowhere c.args.func.now.blocks c.args.i.0 c.requires.there.0 c.requires.there.1 c.requires.there.2 c.in-None.ensures at

pub make_room-requires-clause-empty : goal.make_room-requires-clause-empty
make_room-requires-clause-empty c =
    let func = c.args.func.now in
    let flow = c.args.flow.now in
    let i = c.args.i.0 in
    let closed = rw (← c.requires.graph) at (c.same_paths.ensures.closed func.blocks c.requires.closed) in
    empty_without func flow.graph i c.args.form.now
    (filled_form (func_without i func) flow c.args.form.now (c.requires.graph ∙ sym (edges_without i func.blocks)) (one_without i func.blocks c.numbered.ensures.one_place) (c.same_paths.ensures.edges (blocks_without i func.blocks))
    (c.same_paths.ensures.reached (blocks_without i func.blocks)) (c.order_told.ensures.reached flow.graph closed) (c.sources_told.ensures.edges flow.graph closed) c.requires.form c.one_answer.ensures.one)

pub put_in-requires-clause-places : goal.put_in-requires-clause-places
put_in-requires-clause-places c =
    let p = c.make_room.ensures.places (pred_counts c.args.flow.now) c.args.i.0 c.requires.places in
    let lt = c.make_room.ensures.place in
    let n = c.requires.newest in
    record { blocks = p.blocks; slots = p.slots; numbers = omega arith }

pub put_in-requires-clause-filled : goal.put_in-requires-clause-filled
put_in-requires-clause-filled c =
    let func = c.args.func.now in
    let flow = c.args.flow.now in
    let i = c.args.i.0 in
    let closed = rw (← c.requires.graph) at (c.same_paths.ensures.closed func.blocks c.requires.closed) in
    filled_same (func_without i func) flow.graph c.args.form.now c.make_room.new.form c.make_room.ensures.same
    (filled_form (func_without i func) flow c.args.form.now (c.requires.graph ∙ sym (edges_without i func.blocks)) (one_without i func.blocks c.numbered.ensures.one_place) (c.same_paths.ensures.edges (blocks_without i func.blocks))
    (c.same_paths.ensures.reached (blocks_without i func.blocks)) (c.order_told.ensures.reached flow.graph closed) (c.sources_told.ensures.edges flow.graph closed) c.requires.form c.one_answer.ensures.one)

pub settle-requires-clause-places : goal.settle-requires-clause-places
settle-requires-clause-places c =
    let p = c.put_in.ensures.places (pred_counts c.args.flow.now) c.args.i.0 (c.make_room.ensures.places (pred_counts c.args.flow.now) c.args.i.0 c.requires.places) in
    record { blocks = p.blocks; slots = p.slots; numbers = omega arith }

pub returns-clause-form : goal.returns-clause-form
returns-clause-form c =
    let flow = c.args.flow.now in
    let func = c.args.func.now in
    let f = c.settle.new.form in
    let closed = rw (← c.requires.graph) at (c.same_paths.ensures.closed func.blocks c.requires.closed) in
    let reducible = (c.same_paths.ensures.reducible func.blocks).0 (subst IsReducible c.requires.graph c.requires.reducible) in
    form_of_function func flow f c.requires.graph c.numbered.ensures.one_place c.requires.closed reducible (c.same_paths.ensures.edges func.blocks) (c.same_paths.ensures.reached func.blocks)
    (c.order_told.ensures.reached flow.graph closed) (c.sources_told.ensures.edges flow.graph closed) (c.sources_told.ensures.all flow.graph closed)
    (filled_settled func flow.graph c.put_in.new.form f c.put_in.ensures.filled c.settle.ensures.settled c.settle.ensures.consistent) c.settle.ensures.none_trivial
    c.whole_form.ensures c.region_form.ensures.accesses

pub returns-clause-reads : goal.returns-clause-reads
returns-clause-reads c =
    let func = c.args.func.now in
    let r = c.put_in.ensures.reads in
    let at = c.in-Some.ensures.1 in
    let phis : has_phi c.make_room.new.form ≡ has_phi c.args.form.now = ap (λ (l : List Bool). λ (x : ℕ). slice_index_or l x false) c.make_room.ensures.same.phis in
    let here = subst (λ (p : ℕ → Bool). IsPutRead c.args.flow.now.graph p func.blocks c.in-Some.found.0.0 c.args.i r.0) phis r.1 in
    let there = subst (λ (g : List Run). IsPutRead g (has_phi c.args.form.now) func.blocks c.in-Some.found.0.0 c.args.i r.0) c.requires.graph here in (
      r.0,
      record {
        phis = has_phi c.args.form.now;
        phis_are = c.requires.form.phis;
        read = λ b place x h.
            let same = (c.numbered.ensures.one_place c.in-Some.found.0.0 c.in-Some.found.1 b place c.in-Some.ensures.0 x at.found h.found (at.numbered ∙ sym h.numbered)).0 in
            subst (λ (k : ℕ). IsPutRead (edges_of func.blocks) (has_phi c.args.form.now) func.blocks k c.args.i r.0) same there;
      },
      r.2,
    )

pub returns-clause-places : goal.returns-clause-places
returns-clause-places c =
    let p = c.make_room.ensures.places (pred_counts c.args.flow.now) c.args.i.0 c.requires.places in
    let lt = c.make_room.ensures.place in
    let n = c.requires.newest in
    c.settle.ensures.places (pred_counts c.args.flow.now) c.args.func.now.made (c.put_in.ensures.places (pred_counts c.args.flow.now) c.args.func.now.made (record { blocks = p.blocks; slots = p.slots; numbers = omega arith }))
