use Rattle.std.proofs.Common.{Some, sym, ap, ◌∙◌}
use Rattle.std.specs.Option.{option_map}
use Rattle.std.proofs.lemmas.Option.{slice_get-map}
use Rattle.ms_ir.specs.Uses.{arg_operand}
use Rattle.ms_validity.specs.declared.operands.Operand.{Operand as Held}
use Rattle.ms_validity.specs.Told.{as_operand}
use Rattle.ms_validity.proofs.operands.arg_at.Goals as goal

pub returns-in-Some : goal.returns-in-Some
returns-in-Some c =
    ap (λ (o : Held). Some (as_operand o)) c.of_arg.ensures ∙ ap (option_map arg_operand) c.in-Some.ensures.value ∙ sym (slice_get-map arg_operand c.args.args.now c.args.k)

pub returns-in-None : goal.returns-in-None
returns-in-None c = ap (option_map arg_operand) c.in-None.ensures.value ∙ sym (slice_get-map arg_operand c.args.args.now c.args.k)
