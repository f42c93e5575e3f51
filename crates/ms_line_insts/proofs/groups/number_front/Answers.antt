use Rattle.std.proofs.Common.{refl}
use Rattle.ms_grammar.specs.Fits.{IsInt}
use Rattle.ms_line_insts.proofs.Heads.{value_tested, no_value_tested, no_type_tested}
use Rattle.ms_line_insts.proofs.groups.number_front.Goals as goal

pub returns-in_default : goal.returns-in_default
returns-in_default c = λ y ps g h. c.in_default.ensures y.0 _ tt h

pub returns-then-not-is_number : goal.returns-then-not-is_number
returns-then-not-is_number c = no_type_tested IsInt c.args.line.now c.args.tokens.now c.in-Some.behind.now c.in-Some.ty c.in-Some.ensures (c.if-not-is_number.ensures.no refl)

pub returns-in-Some-2 : goal.returns-in-Some-2
returns-in-Some-2 c =
    value_tested IsInt c.args.line.now c.args.tokens.now c.in-Some.behind.now c.in-Some-2.rest.now c.in-Some.ty c.in-Some-2.val (c.if-not-is_number.ensures.yes refl) c.in-Some.ensures (rw c.in-Some-2.is at c.in_ok-val.ensures)

pub returns-in-None : goal.returns-in-None
returns-in-None c = no_value_tested IsInt c.args.line.now c.args.tokens.now c.in-Some.behind.now c.in-Some.ty c.in-Some.ensures (rw c.in-None.is at c.in_ok-val.ensures)
