use Rattle.std.proofs.Common.{Some}
use Rattle.ms_grammar.specs.declared.line.RawTerm.TheVariants.{Ret}
use Rattle.ms_line_insts.proofs.Spelt.{of_term, to_term}
use Rattle.ms_line_insts.proofs.terms.return_value.Goals as goal

pub returns-in_default : goal.returns-in_default
returns-in_default c = λ ty val rest s. (rw c.in_default.is at c.in_ok-given.ensures) (ty, val) _ s.fits (of_term c.args.line.now c.args.tokens.now (Ret (Some (ty, val)) rest) s)

pub returns-in-Some-2 : goal.returns-in-Some-2
returns-in-Some-2 c =
    let a = rw c.in-Some.is at c.in_ok-given.ensures in
    to_term c.args.line.now c.args.tokens.now (Ret (Some c.in-Some.given) c.in-Some-2.tail) (a.on _ (rw c.in-Some-2.is at c.in_ok-tail.ensures)) a.fits

pub returns-in-None : goal.returns-in-None
returns-in-None c =
    λ ty val rest s.
    (rw c.in-None.is at c.in_ok-tail.ensures) rest ((rw c.in-Some.is at c.in_ok-given.ensures).back (ty, val) _ s.fits (of_term c.args.line.now c.args.tokens.now (Ret (Some (ty, val)) rest) s)).further
