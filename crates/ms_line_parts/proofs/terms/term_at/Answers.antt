use Rattle.ms_line_parts.proofs.Variables.{term_is, no_term}
use Rattle.ms_grammar.specs.Parts.{bytes_at}
use Rattle.ms_line_parts.proofs.terms.term_at.Goals as goal

pub returns-in_default : goal.returns-in_default
returns-in_default c = λ n e t h. let typed = h.typed in let none = c.in_default.ensures in cc

pub returns-in-Some-2 : goal.returns-in-Some-2
returns-in-Some-2 c = λ n e.
    let named = rw c.in-Some-2.is at c.in_ok-local.ensures in
    term_is n c.scale_of.result (bytes_at c.args.line.now c.args.ty) (bytes_at c.args.line.now c.args.name) c.in-Some.known c.in-Some-2.local c.in-Some.ensures named.0 named.1 (c.scale_of.ensures n e)

pub returns-in-None : goal.returns-in-None
returns-in-None c = λ n e t h. no_term n (bytes_at c.args.line.now c.args.ty) (bytes_at c.args.line.now c.args.name) (rw c.in-None.is at c.in_ok-local.ensures) t h
