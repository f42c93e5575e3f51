use Rattle.std.specs.Prelude.{IsTrue, ◌↔◌}
use Rattle.std.proofs.lemmas.Result.{IfOk-weaker}
use Rattle.std.proofs.lemmas.Option.{slice_get_within}
use Rattle.ms_ir.specs.Func.{insts_at}
use Rattle.ms_ir.proofs.FuncLemmas.{not_nowhere}
use Rattle.ms_edits.specs.declared.spots.Spot.{Spot}
use Rattle.ms_edits.specs.Told.{IsLate, IsMissed}
use Rattle.ms_edits.specs.Moved.{func_after}
use Rattle.ms_edits.proofs.MoveLemmas.{found_late, not_late_after}
use Rattle.ms_edits.proofs.order.is_late.Goals as goal

pub spot_after-first-requires-clause-place : goal.spot_after-first-requires-clause-place
spot_after-first-requires-clause-place c =
    let w = c.in-Some-place_of.ensures in
    slice_get_within (insts_at c.args.func.now.blocks c.in-Some-place_of.b.0) c.in-Some-place_of.place w.0 w.1.found

pub returns-in-Some-place_of : goal.returns-in-Some-place_of
returns-in-Some-place_of c =
    let f = c.args.func.now in
    let h = c.args.flow.now.graph in
    let at : Spot = record { block = c.in-Some-place_of.b.0; place = c.in-Some-place_of.place } in
    let r = c.spot_after-first.result in
    let a = c.args.at.block in
    let k = c.args.at.place in
    IfOk-weaker c.comes_without.result (λ t. IsTrue t ↔ IsMissed h r.block r.place a k) (λ t. IsTrue t ↔ IsLate (func_after f c.args.after) c.args.val a k)
    (λ t told. found_late (λ blocks e p. c.same_paths.ensures.paths blocks e p) f c.args.after h c.args.val c.in-Local.l c.in-Some.i.0 at r a k t c.requires.graph c.numbered.ensures c.requires.after c.in-Local.is
    c.in-Some.ensures.found c.in-Some-place_of.ensures c.spot_after-first.ensures.stands told)
    c.comes_without.ensures

pub returns-in-None-place_of : goal.returns-in-None-place_of
returns-in-None-place_of c =
    let w = c.in-Some.ensures.found in
    absurd (not_nowhere (insts_at c.args.func.now.blocks w.0) c.in-Some.i.0 w.1 w.2 (c.in-None-place_of.ensures w.0) w.3.found w.3.numbered)

pub returns-in-None : goal.returns-in-None
returns-in-None c = not_late_after c.args.func.now c.args.after c.args.val c.in-Local.l c.args.at.block c.args.at.place c.numbered.ensures c.requires.after c.in-Local.is c.in-None.ensures.found
