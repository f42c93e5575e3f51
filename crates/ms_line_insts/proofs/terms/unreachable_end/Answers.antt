use Rattle.ms_grammar.specs.declared.line.RawTerm.TheVariants.{Unreachable}
use Rattle.ms_line_insts.proofs.Spelt.{of_term, to_term}
use Rattle.ms_line_insts.proofs.terms.unreachable_end.Goals as goal

pub returns-in_default : goal.returns-in_default
returns-in_default c =
    λ rest s.
    let h0 = of_term c.args.line.now c.args.tokens.now (Unreachable rest) s in
    c.in_default.ensures _ h0

pub returns-in-Some-2 : goal.returns-in-Some-2
returns-in-Some-2 c =
    let e1 = c.in-Some.ensures in
    to_term c.args.line.now c.args.tokens.now (Unreachable c.in-Some-2.tail) (e1.on _ (rw c.in-Some-2.is at c.in_ok-tail.ensures)) tt

pub returns-in-None : goal.returns-in-None
returns-in-None c =
    λ rest s.
    let h0 = of_term c.args.line.now c.args.tokens.now (Unreachable rest) s in
    let e1 = c.in-Some.ensures in
    let h1 = e1.back _ h0 in
    (rw c.in-None.is at c.in_ok-tail.ensures) rest h1
