use Rattle.std.proofs.Common.{ℕ, ap, sym, subst, arith}
use Rattle.ms_ir.specs.Func.{FuncState, insts_at}
use Rattle.ms_flow.specs.Cut.{place_before}
use Rattle.ms_form.specs.Counts.{pred_counts}
use Rattle.ms_build.proofs.Enter.{reached_below}
use Rattle.ms_update.proofs.CutEdge.{AreAlike, alike_cut}
use Rattle.ms_update.proofs.Dropped.{filled_dropped}
use Rattle.ms_update.proofs.Formed.{filled_form}
use Rattle.ms_update.proofs.Moved.{fewer_sources, places_fewer}
use Rattle.ms_update.proofs.dropping.drop_edge.Goals as goal

pub move_all-requires-clause-places : goal.move_all-requires-clause-places
move_all-requires-clause-places c =
    let old = c.args.flow.now in
    let new = c.cut.new.flow in
    let p = places_fewer old new c.args.func.now.made c.args.form.now c.cut.ensures.blocks (fewer_sources old.graph new.graph (place_before new.before) c.cut.ensures.stood) c.requires.places in
    record { blocks = p.blocks; slots = p.slots; numbers = omega arith }

pub move_all-requires-clause-behind : goal.move_all-requires-clause-behind
move_all-requires-clause-behind c = c.cut.ensures.stood.behind

pub clear_lost-requires-clause-places : goal.clear_lost-requires-clause-places
clear_lost-requires-clause-places c =
    let old = c.args.flow.now in
    let new = c.cut.new.flow in
    let made = ap (λ (f : FuncState). f.made) c.cut.ensures.func in
    let p = c.move_all.ensures.places (pred_counts new) c.args.func.now.made (places_fewer old new c.args.func.now.made c.args.form.now c.cut.ensures.blocks (fewer_sources old.graph new.graph (place_before new.before) c.cut.ensures.stood) c.requires.places) in
    record { blocks = p.blocks; slots = p.slots; numbers = (let n = p.numbers in omega arith) }

pub finish-requires-clause-places : goal.finish-requires-clause-places
finish-requires-clause-places c =
    let old = c.args.flow.now in
    let new = c.cut.new.flow in
    let made = ap (λ (f : FuncState). f.made) c.cut.ensures.func in
    let p = c.clear_lost.ensures.cleared.places_stay (pred_counts new) c.args.func.now.made
    (c.move_all.ensures.places (pred_counts new) c.args.func.now.made (places_fewer old new c.args.func.now.made c.args.form.now c.cut.ensures.blocks (fewer_sources old.graph new.graph (place_before new.before) c.cut.ensures.stood) c.requires.places)) in
    record { blocks = p.blocks; slots = p.slots; numbers = (let n = p.numbers in omega arith) }

pub finish-requires-clause-filled : goal.finish-requires-clause-filled
finish-requires-clause-filled c =
    let func = c.args.func.now in
    let flow = c.args.flow.now in
    let after = c.cut.new.func in
    let g = c.cut.new.flow.graph in
    let closed = rw (← c.requires.graph) at (c.same_paths.ensures.closed func.blocks c.requires.closed) in
    let closed' = rw (← c.cut.ensures.graph) at (c.same_paths.ensures.closed after.blocks c.cut.ensures.closed) in
    let filled = filled_form func flow c.args.form.now c.requires.graph c.numbered.ensures.one_place (c.same_paths.ensures.edges func.blocks) (c.same_paths.ensures.reached func.blocks)
    (c.order_told.ensures.reached flow.graph closed) (c.sources_told.ensures.edges flow.graph closed) c.requires.form c.one_answer.ensures.one in
    let alike : (b : ℕ) → AreAlike (insts_at func.blocks b) (insts_at after.blocks b) =
    subst (λ (f : FuncState). (b : ℕ) → AreAlike (insts_at func.blocks b) (insts_at f.blocks b)) (sym c.cut.ensures.func) (λ b. alike_cut func c.args.b.0 c.args.slot b) in
    filled_dropped func after flow.graph g (place_before c.cut.new.flow.before) c.args.form.now c.move_all.new.form c.clear_lost.new.form alike c.clear_lost.ensures.numbered.one_place
    (c.order_told.ensures.reached g closed') (c.sources_told.ensures.edges g closed') c.cut.ensures.less (λ b r. (let lt = reached_below flow.graph closed b r in let same = c.cut.ensures.blocks in omega arith)) c.cut.ensures.stood
    filled c.move_all.ensures c.clear_lost.ensures.cleared
