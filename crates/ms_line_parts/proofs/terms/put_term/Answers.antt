use Rattle.std.proofs.Common.{[], ◌∷◌, ◌++◌, sym, ap, ◌∙◌}
use Rattle.ms_line_parts.specs.Terms.{variable}
use Rattle.ms_line_parts.proofs.terms.put_term.Goals as goal

pub returns-in_ok-push-in-Some-clause-yes : goal.returns-in_ok-push-in-Some-clause-yes
returns-in_ok-push-in-Some-clause-yes c = λ yes n e.
    let t = (rw c.in-Some.is at c.in_ok-term.ensures) n e in
    variable t.0 (sym c.has_kind.ensures ∙ c.if-not-has_kind.false) t.1 (c.in_ok-push-in-Some.ensures.ok ∙ ap (λ u. c.args.terms.now ++ u ∷ []) t.2)
