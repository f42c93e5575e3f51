use Rattle.std.proofs.Common.{sym, subst}
use Rattle.std.specs.Prelude.{IfOk, IsTrue, ◌↔◌}
use Rattle.ms_ir.specs.declared.inst.Edit.{Edit}
use Rattle.ms_ir.specs.Edits.{HasBadKind}
use Rattle.ms_edits.proofs.kinds.bad_kind.Goals as goal

pub returns-in-Unlink : goal.returns-in-Unlink
returns-in-Unlink c =
    subst (λ (e : Edit). IfOk c.is_bad_unlink.result (λ t. IsTrue t ↔ HasBadKind c.args.func.now e)) (sym c.in-Unlink.is) c.is_bad_unlink.ensures
