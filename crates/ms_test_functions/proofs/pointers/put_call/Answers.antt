use Rattle.ms_ir.specs.declared.names.Name.TheVariants.{Absent}
use Rattle.ms_test_functions.proofs.pointers.put_call.Goals as goal

pub note_put-requires : goal.note_put-requires
note_put-requires g c = rw c.put_inst-i.ensures.put (c.tables_kept.ensures.put c.args.f.now c.args.alias.now 0 c.count-place.result c.call.result Absent c.call.ensures c.requires.tables)
