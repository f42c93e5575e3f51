use Rattle.std.proofs.Common.{refl}
use Rattle.ms_line_insts.proofs.ArgLemmas.{pointer_found, pointer_none}
use Rattle.ms_line_insts.proofs.args.pointer_front.Goals as goal

pub returns-in_default : goal.returns-in_default
returns-in_default c =
    λ y ps marks g h. (rw c.in_default.is at c.in_ok-arg.ensures) y ps marks g.1 h

pub returns-then-same_type : goal.returns-then-same_type
returns-then-same_type c =
    pointer_found c.args.line.now c.args.tokens.now c.in-Some.arg c.in-Some.rest.now (rw c.in-Some.is at c.in_ok-arg.ensures) (c.if-same_type.ensures.yes refl)

pub returns-else-same_type : goal.returns-else-same_type
returns-else-same_type c =
    pointer_none c.args.line.now c.args.tokens.now c.in-Some.arg c.in-Some.rest.now (rw c.in-Some.is at c.in_ok-arg.ensures) (c.if-same_type.ensures.no refl)
