use Rattle.std.proofs.Common.{◌≡◌, ◌∙◌, ℕ, ap, sym, subst, arith, List}
use Rattle.std.specs.Prelude.{Bool, slice_index_or, false}
use Rattle.ms_paths.specs.Flow.{Block as Run}
use Rattle.ms_ir.specs.Func.{FuncState}
use Rattle.ms_flow.specs.Table.{edges_of}
use Rattle.ms_form.specs.Counts.{pred_counts}
use Rattle.ms_build.specs.Accesses.{has_phi}
use Rattle.ms_ir.proofs.FuncLemmas.{at_and_nowhere}
use Rattle.ms_update.specs.Edits.{func_without}
use Rattle.ms_update.specs.Reads.{IsPutRead}
use Rattle.ms_update.proofs.Formed.{filled_form}
use Rattle.ms_update.proofs.Shifted.{shifted_without, shifted_there, filled_blocks, edges_shifted, closed_shifted}
use Rattle.ms_update.proofs.shifting.shift.Goals as goal

pub unreachable-requires : goal.unreachable-requires
unreachable-requires c = let at = c.requires.there.3 in at_and_nowhere c.args.func.now.blocks c.args.i.0 c.requires.there.0 c.requires.there.1 c.requires.there.2 c.in-None.ensures at

pub take_out-requires-clause-filled : goal.take_out-requires-clause-filled
take_out-requires-clause-filled c =
    let func = c.args.func.now in
    let flow = c.args.flow.now in
    let closed = rw (← c.requires.graph) at (c.same_paths.ensures.closed func.blocks c.requires.closed) in
    filled_form func flow c.args.form.now c.requires.graph c.numbered.ensures.one_place (c.same_paths.ensures.edges func.blocks) (c.same_paths.ensures.reached func.blocks)
    (c.order_told.ensures.reached flow.graph closed) (c.sources_told.ensures.edges flow.graph closed) c.requires.form c.one_answer.ensures.one

pub put_in-requires-clause-graph : goal.put_in-requires-clause-graph
put_in-requires-clause-graph c =
    c.requires.graph ∙ sym (edges_shifted c.args.i.0 c.args.func.now.blocks c.shift_inst.new.self.blocks (shifted_without c.args.func.now c.shift_inst.new.self c.args.i.0 c.args.b.0 c.args.place c.shift_inst.ensures))

pub put_in-requires-clause-there : goal.put_in-requires-clause-there
put_in-requires-clause-there c = shifted_there c.args.func.now c.shift_inst.new.self c.args.i.0 c.args.b.0 c.args.place c.requires.block c.requires.place c.shift_inst.ensures

pub put_in-requires-clause-places : goal.put_in-requires-clause-places
put_in-requires-clause-places c =
    let made = ap (λ (f : FuncState). f.made) c.shift_inst.ensures.rest in
    let p = c.take_out.ensures.places (pred_counts c.args.flow.now) c.args.func.now.made c.requires.places in
    record { blocks = p.blocks; slots = p.slots; numbers = (let n = p.numbers in omega arith) }

pub put_in-requires-clause-filled : goal.put_in-requires-clause-filled
put_in-requires-clause-filled c =
    filled_blocks (func_without c.args.i.0 c.args.func.now) (func_without c.args.i.0 c.shift_inst.new.self) c.args.flow.now.graph c.take_out.new.form
    (sym (shifted_without c.args.func.now c.shift_inst.new.self c.args.i.0 c.args.b.0 c.args.place c.shift_inst.ensures)) c.take_out.ensures.filled

pub finish-requires-clause-closed : goal.finish-requires-clause-closed
finish-requires-clause-closed c =
    closed_shifted c.args.i.0 c.args.func.now.blocks c.shift_inst.new.self.blocks (shifted_without c.args.func.now c.shift_inst.new.self c.args.i.0 c.args.b.0 c.args.place c.shift_inst.ensures) c.requires.closed

pub finish-requires-clause-graph : goal.finish-requires-clause-graph
finish-requires-clause-graph c =
    c.requires.graph ∙ sym (edges_shifted c.args.i.0 c.args.func.now.blocks c.shift_inst.new.self.blocks (shifted_without c.args.func.now c.shift_inst.new.self c.args.i.0 c.args.b.0 c.args.place c.shift_inst.ensures))

pub finish-requires-clause-places : goal.finish-requires-clause-places
finish-requires-clause-places c =
    let made = ap (λ (f : FuncState). f.made) c.shift_inst.ensures.rest in
    let p = c.put_in.ensures.places (pred_counts c.args.flow.now) c.args.func.now.made (c.take_out.ensures.places (pred_counts c.args.flow.now) c.args.func.now.made c.requires.places) in
    record { blocks = p.blocks; slots = p.slots; numbers = (let n = p.numbers in omega arith) }

pub returns-clause-reads : goal.returns-clause-reads
returns-clause-reads c =
    let old = c.args.func.now in
    let new = c.shift_inst.new.self in
    let r = c.put_in.ensures.reads in
    let graph : c.args.flow.now.graph ≡ edges_of new.blocks =
    c.requires.graph ∙ sym (edges_shifted c.args.i.0 old.blocks new.blocks (shifted_without old new c.args.i.0 c.args.b.0 c.args.place c.shift_inst.ensures)) in
    let phis : has_phi c.take_out.new.form ≡ has_phi c.args.form.now = ap (λ (l : List Bool). λ (x : ℕ). slice_index_or l x false) c.take_out.ensures.phis in
    let here = subst (λ (p : ℕ → Bool). IsPutRead c.args.flow.now.graph p new.blocks c.args.b.0 c.args.i r.0) phis r.1 in
    let there = subst (λ (g : List Run). IsPutRead g (has_phi c.args.form.now) new.blocks c.args.b.0 c.args.i r.0) graph here in
    let at = shifted_there old new c.args.i.0 c.args.b.0 c.args.place c.requires.block c.requires.place c.shift_inst.ensures in (
      r.0,
      record {
        phis = has_phi c.args.form.now;
        phis_are = c.requires.form.phis;
        read = λ b place x h.
            let same = (c.finish.ensures.numbered.one_place c.args.b.0 at.0 b place at.1 x at.2.found h.found (at.2.numbered ∙ sym h.numbered)).0 in
            subst (λ (k : ℕ). IsPutRead (edges_of new.blocks) (has_phi c.args.form.now) new.blocks k c.args.i r.0) same there;
      },
      r.2,
    )
