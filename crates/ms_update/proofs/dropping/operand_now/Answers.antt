use Rattle.std.proofs.Common.{◌∙◌, sym}
use Rattle.ms_form.specs.declared.access.User.TheVariants.{Operand}
use Rattle.ms_build.proofs.Entries.{named_list}
use Rattle.ms_update.proofs.dropping.operand_now.Goals as goal

pub returns-then-slot-pred_count-clause-named : goal.returns-then-slot-pred_count-clause-named
returns-then-slot-pred_count-clause-named c = λ a e. named_list c.args.form.now (Operand c.args.b c.slot_before.result) a c.uses.ensures.table c.uses.ensures.users (sym c.operand.ensures ∙ e)
