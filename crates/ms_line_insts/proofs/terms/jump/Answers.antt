use Rattle.ms_grammar.specs.declared.line.RawTerm.TheVariants.{Br}
use Rattle.ms_line_insts.proofs.Spelt.{of_term, to_term}
use Rattle.ms_line_insts.proofs.terms.jump.Goals as goal

pub returns-in_default : goal.returns-in_default
returns-in_default c = λ target rest s. (rw c.in_default.is at c.in_ok-target.ensures) target _ s.fits (of_term c.args.line.now c.args.tokens.now (Br target rest) s)

pub returns-in-Some-2 : goal.returns-in-Some-2
returns-in-Some-2 c =
    let a = rw c.in-Some.is at c.in_ok-target.ensures in
    to_term c.args.line.now c.args.tokens.now (Br c.in-Some.target c.in-Some-2.tail) (a.on _ (rw c.in-Some-2.is at c.in_ok-tail.ensures)) a.fits

pub returns-in-None : goal.returns-in-None
returns-in-None c =
    λ target rest s.
    (rw c.in-None.is at c.in_ok-tail.ensures) rest ((rw c.in-Some.is at c.in_ok-target.ensures).back target _ s.fits (of_term c.args.line.now c.args.tokens.now (Br target rest) s)).further
