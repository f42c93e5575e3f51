use Rattle.std.proofs.Common.{sym, subst}
use Rattle.std.specs.Prelude.{IfOk, IsTrue, ◌↔◌}
use Rattle.ms_ir.specs.declared.inst.Edit.{Edit}
use Rattle.ms_ir.specs.Edits.{IsStillUsed}
use Rattle.ms_edits.proofs.uses.is_still_used.Goals as goal

pub returns-in-Remove : goal.returns-in-Remove
returns-in-Remove c =
    subst (λ (e : Edit). IfOk c.is_result_used.result (λ t. IsTrue t ↔ IsStillUsed c.args.func.now e)) (sym c.in-Remove.is) c.is_result_used.ensures
