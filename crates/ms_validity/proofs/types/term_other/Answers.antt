use Rattle.ms_ir.specs.Sound.{HasOtherType}
use Rattle.ms_ir.specs.Uses.{term_operands}
use Rattle.ms_validity.specs.Told.{as_operand}
use Rattle.std.proofs.Common.{sym}
use Rattle.ms_validity.proofs.ListLemmas.{only_one}
use Rattle.ms_validity.proofs.types.term_other.Goals as goal

pub returns-in-Some : goal.returns-in-Some
returns-in-Some c = (
  λ t. (as_operand c.in-Some.o, (0, sym c.in-Some.ensures.first), c.is_other.ensures.0 t),
  λ h. c.is_other.ensures.1 (only_one (term_operands c.args.term.now) (as_operand c.in-Some.o) (HasOtherType c.args.func.now) (sym c.in-Some.ensures.first) c.in-Some.ensures.all h),
)
