use Rattle.std.proofs.Common.{◌<◌, length, ap, sym, subst, ◌∙◌}
use Rattle.ms_grammar.specs.Parts.{texts}
use Rattle.ms_line.proofs.Cells.{not_true}
use Rattle.ms_line.proofs.ParamLemmas.{dots_found, no_dots, no_next_param, no_next_mark, more_found, last_found}
use Rattle.ms_line.proofs.params.next_at.Goals as goal

pub returns-then-starts_with-2 : goal.returns-then-starts_with-2
returns-then-starts_with-2 c =
    let line = c.args.line.now in
    let dots = c.starts_with.ensures.is.0 c.if-starts_with.true in
    let end = c.starts_with-then-starts_with.ensures.is.0 c.if-starts_with-2.true in
    dots_found line c.args.tokens.now dots.0 end.0 dots.1 (ap (λ ts. texts line ts) (sym c.behind.ensures.value) ∙ end.1) (c.starts_with.ensures.some c.if-starts_with.true)
    (subst (λ ts. 0 < length ts) c.behind.ensures.value (c.starts_with-then-starts_with.ensures.some c.if-starts_with-2.true))

pub returns-then-starts_with : goal.returns-then-starts_with
returns-then-starts_with c =
    let line = c.args.line.now in
    let dots = c.starts_with.ensures.is.0 c.if-starts_with.true in
    no_dots line c.args.tokens.now dots.0 dots.1
    (λ first. not_true c.starts_with-then-starts_with.result c.if-starts_with-2.false
    (c.starts_with-then-starts_with.ensures.is.1 (first.0, ap (λ ts. texts line ts) c.behind.ensures.value ∙ first.1)))

pub returns-in_default : goal.returns-in_default
returns-in_default c =
    no_next_param c.args.line.now c.args.tokens.now (λ first. not_true c.starts_with.result c.if-starts_with.false (c.starts_with.ensures.is.1 first))
    (rw c.in_default.is at c.in_ok-found.ensures)

pub returns-then-starts_with-3 : goal.returns-then-starts_with-3
returns-then-starts_with-3 c =
    let line = c.args.line.now in
    let first = c.starts_with-2.ensures.is.0 c.if-starts_with-3.true in
    more_found line c.args.tokens.now c.in-Some.found first.0 (λ dots. not_true c.starts_with.result c.if-starts_with.false (c.starts_with.ensures.is.1 dots))
    (rw c.in-Some.is at c.in_ok-found.ensures) (ap (λ ts. texts line ts) (sym c.behind-rest.ensures.value) ∙ first.1)
    (subst (λ ts. 0 < length ts) c.behind-rest.ensures.value (c.starts_with-2.ensures.some c.if-starts_with-3.true))

pub returns-then-starts_with-4 : goal.returns-then-starts_with-4
returns-then-starts_with-4 c =
    let line = c.args.line.now in
    let first = c.starts_with-3.ensures.is.0 c.if-starts_with-4.true in
    last_found line c.args.tokens.now c.in-Some.found first.0 (λ dots. not_true c.starts_with.result c.if-starts_with.false (c.starts_with.ensures.is.1 dots))
    (rw c.in-Some.is at c.in_ok-found.ensures) (ap (λ ts. texts line ts) (sym c.behind-rest.ensures.value) ∙ first.1)
    (subst (λ ts. 0 < length ts) c.behind-rest.ensures.value (c.starts_with-3.ensures.some c.if-starts_with-4.true))

pub returns : goal.returns
returns c =
    let line = c.args.line.now in
    no_next_mark line c.args.tokens.now c.in-Some.found (λ dots. not_true c.starts_with.result c.if-starts_with.false (c.starts_with.ensures.is.1 dots))
    (rw c.in-Some.is at c.in_ok-found.ensures)
    (λ first. not_true c.starts_with-2.result c.if-starts_with-3.false (c.starts_with-2.ensures.is.1 (first.0, ap (λ ts. texts line ts) c.behind-rest.ensures.value ∙ first.1)))
    (λ first. not_true c.starts_with-3.result c.if-starts_with-4.false (c.starts_with-3.ensures.is.1 (first.0, ap (λ ts. texts line ts) c.behind-rest.ensures.value ∙ first.1)))
