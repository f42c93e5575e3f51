use Rattle.std.proofs.Common.{◌≡◌, sym}
use Rattle.std.proofs.lemmas.Bool.{false≢true}
use Rattle.ms_ir.specs.declared.inst.Val.TheVariants.{Local}
use Rattle.ms_ir.specs.Uses.{Operand, term_operands}
use Rattle.ms_edits.specs.Told.{as_operand}
use Rattle.ms_edits.proofs.ListLemmas.{at_contains, none_at_all, only_one}
use Rattle.ms_edits.proofs.UseLemmas.{asked_is, is_asked_so}
use Rattle.ms_edits.proofs.uses.is_term_operand.Goals as goal

pub returns-in-Some : goal.returns-in-Some
returns-in-Some c =
    let os = term_operands c.args.term.now in
    let o = as_operand c.in-Some.o in (
      λ t. (o, at_contains os 0 o (sym c.in-Some.ensures.first), asked_is c.args.func.now c.args.l o (c.is_asked.ensures.0 t)),
      λ h. c.is_asked.ensures.1 (is_asked_so c.args.func.now c.args.l o
          (only_one os o (λ (a : Operand). a.val ≡ Local c.args.l) (sym c.in-Some.ensures.first) c.in-Some.ensures.all h)),
    )

pub returns-in-None : goal.returns-in-None
returns-in-None c =
    let os = term_operands c.args.term.now in (
      λ t. absurd (false≢true t),
      λ h. absurd (none_at_all os (λ (a : Operand). a.val ≡ Local c.args.l) (sym c.in-None.ensures.first) c.in-None.ensures.all h),
    )
