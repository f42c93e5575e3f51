use Rattle.ms_grammar.specs.declared.line.RawTerm.TheVariants.{CondBr}
use Rattle.ms_line_insts.proofs.Spelt.{of_term, to_term}
use Rattle.ms_line_insts.proofs.terms.branch.Goals as goal

pub returns-in_default : goal.returns-in_default
returns-in_default c =
    λ cond if_true if_false rest s. (rw c.in_default.is at c.in_ok-cond.ensures) cond _ s.fits.0 (of_term c.args.line.now c.args.tokens.now (CondBr cond if_true if_false rest) s)

pub returns-in-Some-2 : goal.returns-in-Some-2
returns-in-Some-2 c =
    let a = rw c.in-Some.is at c.in_ok-cond.ensures in
    let e = rw c.in-Some-2.is at c.in_ok-if_true.ensures in
    to_term c.args.line.now c.args.tokens.now (CondBr c.in-Some.cond c.in-Some-2.if_true c.in-Some-2.if_false c.in-Some-2.tail) (a.on _ e.spelt) (a.fits, e.fits.0, e.fits.1)

pub returns-in-None : goal.returns-in-None
returns-in-None c =
    λ cond if_true if_false rest s.
    let b = (rw c.in-Some.is at c.in_ok-cond.ensures).back cond _ s.fits.0 (of_term c.args.line.now c.args.tokens.now (CondBr cond if_true if_false rest) s) in
    (rw c.in-None.is at c.in_ok-if_true.ensures) (if_true, if_false, rest) (s.fits.1, s.fits.2) b.further
