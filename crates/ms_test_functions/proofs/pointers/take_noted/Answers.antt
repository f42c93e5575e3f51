use Rattle.std.proofs.Common.{◌∙◌, ap}
use Rattle.ms_alias.specs.Roots.{makes_pointer}
use Rattle.ms_test_functions.proofs.pointers.take_noted.Goals as goal

pub returns-clause-tables : goal.returns-clause-tables
returns-clause-tables g c =
    let inst = c.take.ensures.0 in
    let taken = c.take.ensures.1 in
    let idle = c.expect_idle_at.ensures taken.b taken.place taken.x taken.at in
    c.tables_kept.ensures.take c.args.f.now c.take.new.f c.note_take-changed.new.self c.args.i inst c.numbered.ensures taken (ap makes_pointer taken.inst_is ∙ idle) c.note_take-changed.ensures.pointers c.note_take-changed.ensures.captured
