use Rattle.std.proofs.Common.{◌<◌, refl, subst, arith}
use Rattle.ms_ir.specs.declared.names.Ty.TheVariants.{Ptr}
use Rattle.ms_grammar.specs.Numbers.{bits}
use Rattle.ms_line_parts.proofs.words.number_value.Goals as goal
use Rattle.ms_line_parts.proofs.words.number_value.Goals.{in_default-via-in-Some+else-not-is_pointer, in_default-via-in_default}

pub returns-in_default : goal.returns-in_default
returns-in_default c = λ n int means.
    elim c.in_default.branch [
      | in_default-via-in-Some+else-not-is_pointer w ↦ (let zero : 0 < bits Ptr = subst (λ t. 0 < bits t) (w.if-not-is_pointer.ensures.0 refl) int in omega arith)
      | in_default-via-in_default w ↦ (rw w.in_default.is at c.number_at.ensures) n means
    ]
