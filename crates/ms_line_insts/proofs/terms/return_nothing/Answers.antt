use Rattle.std.proofs.Common.{None}
use Rattle.ms_grammar.specs.declared.line.RawTerm.TheVariants.{Ret}
use Rattle.ms_line_insts.proofs.Spelt.{of_term, to_term}
use Rattle.ms_line_insts.proofs.terms.return_nothing.Goals as goal

pub returns-in_default : goal.returns-in_default
returns-in_default c = λ rest s. c.in_default.ensures _ (of_term c.args.line.now c.args.tokens.now (Ret None rest) s)

pub returns-in-Some-2 : goal.returns-in-Some-2
returns-in-Some-2 c = to_term c.args.line.now c.args.tokens.now (Ret None c.in-Some-2.tail) (c.in-Some.ensures.on _ (rw c.in-Some-2.is at c.in_ok-tail.ensures)) tt

pub returns-in-None : goal.returns-in-None
returns-in-None c = λ rest s. (rw c.in-None.is at c.in_ok-tail.ensures) rest (c.in-Some.ensures.back _ (of_term c.args.line.now c.args.tokens.now (Ret None rest) s))
