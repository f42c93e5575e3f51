use Rattle.std.proofs.Common.{sym, subst}
use Rattle.std.specs.Prelude.{IsTrue, ◌↔◌}
use Rattle.ms_ir.specs.declared.inst.Edit.{Edit}
use Rattle.ms_ir.specs.Edits.{HasBadName}
use Rattle.ms_edits.proofs.names.bad_name.Goals as goal

pub returns-in-Insert : goal.returns-in-Insert
returns-in-Insert c = subst (λ (e : Edit). IsTrue c.bad_in_insert.result ↔ HasBadName c.args.func.now e) (sym c.in-Insert.is) c.bad_in_insert.ensures
