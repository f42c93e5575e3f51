use Rattle.std.proofs.lemmas.Option.{slice_get_within}
use Rattle.ms_ir.specs.Func.{insts_at}
use Rattle.ms_edits.proofs.MissedLemmas.{user_gone, user_told}
use Rattle.ms_edits.proofs.moves.is_user_missed.Goals as goal

pub spot_after-at-requires-clause-place : goal.spot_after-at-requires-clause-place
spot_after-at-requires-clause-place c =
    let w = c.in-Some.ensures in
    slice_get_within (insts_at c.args.func.now.blocks c.in-Some.b.0) c.in-Some.place w.0 w.1.found

pub returns-in-Some : goal.returns-in-Some
returns-in-Some c =
    let w = c.in-Some.ensures in
    let r = c.spot_after-at.result in
    user_told c.args.func.now c.numbered.ensures c.args.from c.args.to c.requires.moves c.args.l
    c.args.i.0 r.block r.place w.0 c.args.inst.now c.is_inst_missed.result (c.spot_after-at.ensures.stands w.0 w.1.found) w.1.numbered
    (c.requires.each c.in-Some.b.0 c.in-Some.place w.0 w.1) c.is_inst_missed.ensures

pub returns-in-None : goal.returns-in-None
returns-in-None c = user_gone c.args.func.now c.numbered.ensures c.args.from c.args.to c.requires.moves c.args.l c.args.i.0 c.in-None.ensures
