use Rattle.ms_line_insts.proofs.ArgLemmas.{arg_no, arg_found, arg_none}
use Rattle.ms_line_insts.proofs.args.arg_front.Goals as goal

pub returns-in_default : goal.returns-in_default
returns-in_default c =
    λ y ps marks g h. c.in_default.ensures y.ty _ tt h

pub returns-in_default-2 : goal.returns-in_default-2
returns-in_default-2 c =
    λ y ps marks g h.
    let types = c.in-Some.ensures.back y.ty _ tt h in
    arg_no c.args.line.now c.in-Some.at_attributes.now y.text y.val ps (rw c.in_default-2.is at c.in_ok-attributes.ensures) marks types.further

pub returns-in_default-3 : goal.returns-in_default-3
returns-in_default-3 c =
    arg_none c.args.line.now c.args.tokens.now c.in-Some.at_attributes.now c.in-Some-2.attributes.now c.in-Some-2.at_value.now c.in-Some.ty c.in-Some.ensures (rw c.in-Some-2.is at c.in_ok-attributes.ensures) (rw c.in_default-3.is at c.in_ok-val.ensures)

pub returns : goal.returns
returns c =
    arg_found c.args.line.now c.args.tokens.now c.in-Some.at_attributes.now c.in-Some-2.attributes.now c.in-Some-2.at_value.now c.in-Some-3.rest.now c.in-Some.ty c.in-Some-3.val c.in-Some.ensures (rw c.in-Some-2.is at c.in_ok-attributes.ensures) (rw c.in-Some-3.is at c.in_ok-val.ensures) c.in_ok-text.text c.in_ok-text.ensures
