use Rattle.std.proofs.Common.{◌≡◌, sym}
use Rattle.ms_ir.specs.declared.names.Name.TheVariants.{Absent}
use Rattle.ms_update.specs.Edits.{blocks_without, func_without}
use Rattle.ms_test_functions.proofs.update.put_with.Goals as goal

pub insert-requires-clause-form : goal.insert-requires-clause-form
insert-requires-clause-form g c =
    let f = c.make_room.new.f in
    let new = c.put_inst-i.new.self in
    let back : blocks_without c.put_inst-i.result.0 new.blocks ≡ f.blocks =
    rw (c.put_inst-i.ensures.number, c.put_inst-i.ensures.put) (c.without_told.ensures.put f c.args.b.0 c.args.place c.args.inst Absent c.numbered.ensures) in
    c.without_told.ensures.form f (func_without c.put_inst-i.result.0 new) c.make_room.new.form (sym back) c.make_room.ensures.together.form
