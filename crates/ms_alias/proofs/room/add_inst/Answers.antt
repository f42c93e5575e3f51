use Rattle.std.proofs.Common.{sym, subst}
use Rattle.ms_ir.specs.declared.inst.Inst.{Inst}
use Rattle.ms_alias.specs.Bases.{pointers_in, sources_in}
use Rattle.ms_alias.specs.Building.{HaveGlobals}
use Rattle.ms_alias.proofs.Rooms.{have_two}
use Rattle.ms_alias.proofs.room.add_inst.Goals as goal

pub returns-in_ok-add_val-in-Select-2-clause-globals : goal.returns-in_ok-add_val-in-Select-2-clause-globals
returns-in_ok-add_val-in-Select-2-clause-globals c =
    let two = c.add_val-in-Select.new.columns.items in
    subst (λ (i : Inst). HaveGlobals two (pointers_in (sources_in i))) (sym c.in-Select.is)
    (have_two c.add_val.new.columns.items two c.in-Select.a c.in-Select.b c.in_ok-add_val-in-Select.ensures.globals c.in_ok-add_val-in-Select-2.ensures.longer c.in_ok-add_val-in-Select-2.ensures.globals)
